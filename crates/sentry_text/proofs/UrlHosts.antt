-- What the parser of URLs makes of the text of a host fits the scheme.
use Rattle.std.proofs.Common.{◌≡◌, ℕ, zero, suc, ◌+◌, ◌-◌, ◌*◌, ◌^◌, ◌<◌, ◌≤◌, Bool, true, false, ◌==◌, List, [], ◌∷◌, ◌++◌, length, get_or, Option, Some, None, Ok, Err, All, refl, sym, ap, ◌∙◌, subst, inl, inr, ⊎_elim, arith, length-append, lit≤, replicate}
use Rattle.std.specs.Prelude.{codes, bytes_eq}
use Rattle.std.specs.Result.{result_map_both}
use Rattle.std.specs.Int.{w32, to_be_bytes}
use Rattle.std.specs.List.{list_any}
use Rattle.std.specs.Net.Addr.{segments_of}
use Rattle.std.specs.Net.Grammar.{IsGroup, IsGroupsAfter, IsColonHex, IsDotted}
use Rattle.std.specs.Net.Reader.{whole_value, read_ipv6}
use Rattle.std.proofs.Math.Nat.{pow-le-pow_right}
use Rattle.std.proofs.NetLemmas.Ipv6.{read_ipv6_sound}
use Rattle.std.proofs.lemmas.Bool.{cond-true, cond-false, cond_both, cases_Bool}
use Rattle.std.proofs.lemmas.Bool.Decides.{nat_tests}
use Rattle.std.proofs.lemmas.Int.Digits.{digits_value-lt}
use Rattle.std.proofs.lemmas.List.{length-replicate}
use Rattle.std.proofs.lemmas.List.Elements.{All-nil, All-cons, All-head, All-tail, All-append}
use Rattle.percent_encoding.specs.declared.ascii_set.TheConstants.{CONTROLS}
use Rattle.percent_encoding.specs.Percent.{percent_encode}
use Rattle.url.specs.declared.error.ParseError.{ParseError}
use Rattle.url.specs.declared.host.Host.{Host}
use Rattle.url.specs.declared.host.Host.TheVariants.{Domain, Ipv4, Ipv6}
use Rattle.url.specs.declared.scheme.SchemeType.{SchemeType}
use Rattle.url.specs.declared.scheme.SchemeType.TheVariants.{File, SpecialNotFile, NotSpecial}
use Rattle.url.specs.Input.{is_empty, lowercase}
use Rattle.url.specs.Host.{is_empty_host, parse_bracketed, ipv6_host, ipv4_host, ascii_domain, host_of_ascii, is_forbidden_in_domain, is_forbidden_in_host, parse_special_host, parse_opaque_host, without_localhost, parse_file_host, parse_host, IsDomain, IsHostOf, IsIpHost}
use Rattle.url.specs.Ipv4.{ends_in_a_number, parse_ipv4}
use Rattle.url.specs.Parser.{Parsed}
use Rattle.url.proofs.HostLemmas.{none_from_list_any, ascii_domain-lower, host_from_ip, file_host_from_special, opaque_host_encoded}
use Rattle.url.proofs.SetterLemmas.{empty_domain}
use Rattle.url.proofs.ValidLemmas.{is_empty-percent_encode}

-- ---- addresses

abbrev IsSmall : ℕ → Type 0
IsSmall s = s < 2 ^ 16

group_small : (text : List ℕ) (s : ℕ) → IsGroup text s → IsSmall s
group_small text s h =
    let below = digits_value-lt 16 text h.0.0.1 in
    let most : 16 ^ length text ≤ 16 ^ 4 = pow-le-pow_right (lit≤ tt) h.1 in
    omega (arith, below, most, h.0.1)

dotted_small : (text octets : List ℕ) → IsDotted text octets → All IsSmall (segments_of octets)
dotted_small text octets h =
    subst (λ o. All IsSmall (segments_of o)) (sym h.value)
    (All-cons IsSmall (h.a * 256 + h.b) ((h.c * 256 + h.d) ∷ []) (omega (arith, h.fit.0, h.fit.1)) (All-cons IsSmall (h.c * 256 + h.d) [] (omega (arith, h.fit.2)) (All-nil IsSmall)))

groups_small : (ipv4 : Bool) (lead text segments : List ℕ) → IsGroupsAfter ipv4 lead text segments → All IsSmall segments
groups_small ipv4 lead text [] h = All-nil IsSmall
groups_small ipv4 lead text (s ∷ segments) (inl (group, rest, e, is_group, others)) =
    All-cons IsSmall s segments (group_small group s is_group) (groups_small ipv4 (codes ":") rest segments others)
groups_small ipv4 lead text (s ∷ segments) (inr (last, octets, t, e, dotted, same)) =
    subst (All IsSmall) (sym same) (dotted_small last octets dotted)

zeros_small : (n : ℕ) → All IsSmall (replicate n 0)
zeros_small zero = All-nil IsSmall
zeros_small (suc n) = All-cons IsSmall 0 (replicate n 0) (omega arith) (zeros_small n)

small_at : (segments : List ℕ) → All IsSmall segments → (k : ℕ) → get_or segments k 0 < 2 ^ 16
small_at [] all k = omega arith
small_at (s ∷ segments) all zero = All-head IsSmall s segments all
small_at (s ∷ segments) all (suc k) = small_at segments (All-tail IsSmall s segments all) k

abbrev address : List ℕ → Host (List ℕ)
address segments = Ipv6 (record { segments = segments })

colon_hex_valid : (text segments : List ℕ) → IsColonHex text segments → IsIpHost (address segments)
colon_hex_valid text segments (inl (groups, eight)) = (eight, small_at segments (groups_small true [] text segments groups))
colon_hex_valid text segments (inr h) =
    let zeros : List ℕ = replicate (8 - length h.head - length h.tail) 0 in
    let many : length zeros ≡ 8 - length h.head - length h.tail = length-replicate (8 - length h.head - length h.tail) 0 in
    let front = length-append h.head zeros in
    let whole = length-append (h.head ++ zeros) h.tail in
    let all = subst (All IsSmall) (sym h.value) (All-append IsSmall (h.head ++ zeros) h.tail (All-append IsSmall h.head zeros (groups_small false [] h.head_text h.head h.head_groups) (zeros_small (8 - length h.head - length h.tail))) (groups_small true [] h.tail_text h.tail h.tail_groups)) in
    (ap length h.value ∙ omega (arith, h.room, many, front, whole), small_at segments all)

whole_ipv6 : (text segments : List ℕ) (o : Option (List ℕ × List ℕ)) → read_ipv6 text ≡ o → whole_value o ≡ Some segments → IsIpHost (address segments)
whole_ipv6 text segments None e w = absurd (cc)
whole_ipv6 text segments (Some (found, rest)) e w =
    let sound = read_ipv6_sound text found rest e in
    ⊎_elim
    (λ ended. let same : found ≡ segments = let both = sym (cond-true _ (Some found) None ended) ∙ w in cc in subst (λ s. IsIpHost (address s)) same (colon_hex_valid sound.0 found sound.2))
    (λ more. let never : None ≡ Some segments = sym (cond-false _ (Some found) None more) ∙ w in absurd (cc))
    (cases_Bool (length rest == 0))

ipv6_valid : (text : List ℕ) (o : Option (List ℕ)) (host : Host (List ℕ)) → whole_value (read_ipv6 text) ≡ o → ipv6_host o ≡ Ok host → IsIpHost host
ipv6_valid text None host e h = absurd (cc)
ipv6_valid text (Some segments) host e h =
    let same : address segments ≡ host = cc in
    subst IsIpHost same (whole_ipv6 text segments (read_ipv6 text) refl e)

-- ---- what a parser gives

abbrev Gives : (Host (List ℕ) → Type 0) → Parsed (Host (List ℕ)) → Type 0
Gives P r = (host : Host (List ℕ)) → r ≡ Ok host → P host

refused : (P : Host (List ℕ) → Type 0) (error : ParseError) → Gives P (Err error)
refused P error host e = absurd (cc)

bracketed_valid : (bytes : List ℕ) → Gives IsIpHost (parse_bracketed bytes)
unfolding parse_bracketed
bracketed_valid bytes =
    cond_both (get_or bytes (length bytes - 1) 0 == 93) _ _ (Gives IsIpHost)
    (λ _ host e. ipv6_valid _ _ host refl e)
    (λ _. refused IsIpHost _)

octets_small : (n k : ℕ) → get_or (to_be_bytes w32 n) k 0 < 2 ^ 8
octets_small n zero = omega arith
octets_small n (suc zero) = omega arith
octets_small n (suc (suc zero)) = omega arith
octets_small n (suc (suc (suc zero))) = omega arith
octets_small n (suc (suc (suc (suc k)))) = omega arith

-- ---- the host of a special URL

-- a host that fits a special scheme but `file`, and so is not empty
abbrev IsWebHost : Host (List ℕ) → Type 0
IsWebHost host = IsHostOf SpecialNotFile host

ipv4_valid : (o : Option ℕ) → Gives IsWebHost (ipv4_host o)
ipv4_valid None = refused IsWebHost _
ipv4_valid (Some bits) = λ host e.
    let same : Ipv4 (record { octets = to_be_bytes w32 bits }) ≡ host = cc in
    subst IsWebHost same (refl, octets_small bits)

domain_valid : (domain : List ℕ) → lowercase domain ≡ domain → Gives IsWebHost (host_of_ascii (Some domain))
domain_valid domain lower =
    cond_both (is_empty domain) _ _ (Gives IsWebHost) (λ _. refused IsWebHost _)
    (λ some. cond_both (list_any is_forbidden_in_domain domain) _ _ (Gives IsWebHost) (λ _. refused IsWebHost _)
    (λ allowed. cond_both (ends_in_a_number domain) _ _ (Gives IsWebHost) (λ _. ipv4_valid (parse_ipv4 domain))
    (λ named host e.
    let same : Domain domain ≡ host = cc in
    subst IsWebHost same (record { allowed = none_from_list_any _ domain allowed; lower = lower; named = named }, grind (arith, nat_tests)))))

ascii_valid : (bytes : List ℕ) (o : Option (List ℕ)) → ascii_domain bytes ≡ o → Gives IsWebHost (host_of_ascii o)
ascii_valid bytes None e = refused IsWebHost _
ascii_valid bytes (Some domain) e = domain_valid domain (ascii_domain-lower bytes domain e)

special_host_valid : (bytes : List ℕ) → Gives IsWebHost (parse_special_host bytes)
unfolding parse_special_host
special_host_valid bytes =
    cond_both (get_or bytes 0 0 == 91) _ _ (Gives IsWebHost)
    (λ _ host e. (host_from_ip SpecialNotFile host (bracketed_valid bytes host e)).0)
    (λ _. ascii_valid _ _ refl)

some_host : (host : Host (List ℕ)) → IsWebHost host → is_empty_host host ≡ false
some_host (Domain domain) h = let some = h.1 in grind (arith, nat_tests)
some_host (Ipv4 a) h = refl
some_host (Ipv6 a) h = refl

-- ---- the host of a `file` URL

abbrev IsFileHost : Host (List ℕ) → Type 0
IsFileHost host = IsHostOf File host

local_valid : (host : Host (List ℕ)) → IsFileHost host → IsFileHost (without_localhost host)
local_valid (Domain domain) h = cond_both (bytes_eq domain (codes "localhost")) [] domain IsDomain (λ _. empty_domain) (λ _. h)
local_valid (Ipv4 a) h = h
local_valid (Ipv6 a) h = h

mapped_valid : (r : Parsed (Host (List ℕ))) → Gives IsWebHost r → Gives IsFileHost (result_map_both without_localhost (λ e. e) r)
mapped_valid (Ok found) valid host e =
    let same : without_localhost found ≡ host = cc in
    subst IsFileHost same (local_valid found (file_host_from_special found (valid found refl)))
mapped_valid (Err error) valid host e = absurd (cc)

pub file_host_valid : (bytes : List ℕ) → Gives IsFileHost (parse_file_host bytes)
unfolding parse_file_host
file_host_valid bytes =
    cond_both (is_empty bytes) _ _ (Gives IsFileHost)
    (λ _ host e. let same : Domain [] ≡ host = cc in subst IsFileHost same empty_domain)
    (λ _. mapped_valid (parse_special_host bytes) (special_host_valid bytes))

-- ---- the host of any URL but one of `file`

-- a host that fits the scheme, and is empty only where its text is
abbrev IsHostFrom : SchemeType → List ℕ → Host (List ℕ) → Type 0
IsHostFrom kind bytes host = IsHostOf kind host × (is_empty_host host ≡ true → is_empty bytes ≡ true)

never_empty : (kind : SchemeType) (bytes : List ℕ) (host : Host (List ℕ)) → IsHostOf kind host → is_empty_host host ≡ false → IsHostFrom kind bytes host
never_empty kind bytes host fits some = (fits, λ empty. absurd (cc))

opaque_host_valid : (bytes : List ℕ) → Gives (IsHostFrom NotSpecial bytes) (parse_opaque_host bytes)
unfolding parse_opaque_host
opaque_host_valid bytes =
    cond_both (get_or bytes 0 0 == 91) _ _ (Gives (IsHostFrom NotSpecial bytes))
    (λ _ host e. let ip = host_from_ip NotSpecial host (bracketed_valid bytes host e) in never_empty NotSpecial bytes host ip.0 ip.1)
    (λ _. cond_both (list_any is_forbidden_in_host bytes) _ _ (Gives (IsHostFrom NotSpecial bytes)) (λ _. refused (IsHostFrom NotSpecial bytes) _)
    (λ allowed host e.
    let same : Domain (percent_encode CONTROLS bytes) ≡ host = cc in
    subst (IsHostFrom NotSpecial bytes) same (opaque_host_encoded bytes allowed, λ empty. sym (is_empty-percent_encode CONTROLS bytes) ∙ empty)))

pub host_valid : (kind : SchemeType) (bytes : List ℕ) (host : Host (List ℕ)) → (kind ≡ File → ⊥) → parse_host kind bytes ≡ Ok host → IsHostFrom kind bytes host
host_valid File bytes host other e = absurd (other refl)
host_valid SpecialNotFile bytes host other e = let fits = special_host_valid bytes host e in never_empty SpecialNotFile bytes host fits (some_host host fits)
host_valid NotSpecial bytes host other e = opaque_host_valid bytes host e
