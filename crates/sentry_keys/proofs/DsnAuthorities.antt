-- What the parser makes of the text of a URL whose user name a colon follows, with or without a password.
use Rattle.std.proofs.Common.{◌≡◌, ℕ, ◌<◌, Bool, false, not, ◌&&◌, ◌||◌, ◌==◌, ltb, List, [], ◌∷◌, ◌++◌, length, take, drop, reverse, None, Ok, All, refl, sym, ap, ◌∙◌, subst, append_assoc, arith, length-append, take_all, take_at, drop_at}
use Rattle.std.specs.List.{prefix_len}
use Rattle.std.proofs.lemmas.Bool.{cond-true, cond-false, and_left}
use Rattle.std.proofs.lemmas.Bool.Decides.{nat_tests}
use Rattle.std.proofs.lemmas.List.{reverse-append}
use Rattle.std.proofs.lemmas.List.Elements.{All-nil, All-cons, All-head, All-tail, All-append, All-weaker}
use Rattle.url.specs.declared.slicing.Position.TheVariants.{BeforeUsername, BeforeHost, AfterPort}
use Rattle.url.specs.declared.sets.TheConstants.{PATH, USERINFO}
use Rattle.url.specs.declared.scheme.SchemeType.TheVariants.{SpecialNotFile}
use Rattle.url.specs.Input.{is_c0_control_or_space, is_tab_or_new_line, trim_c0_control_and_space, strip_tabs_and_new_lines, split_once, rsplit_once}
use Rattle.url.specs.Scheme.{IsScheme, is_special, is_file, is_slash, is_scheme_byte}
use Rattle.url.specs.Host.{host_text, parse_host, IsHostOf}
use Rattle.url.specs.Path.{segment_len, parse_path_start}
use Rattle.url.specs.Parts.{Parts, kind_of, host_or_empty, text_between, IsValidHead, IsValid}
use Rattle.url.specs.Head.{head_only, without_tail}
use Rattle.url.specs.Parser.{and_then, parse_authority, with_path, after_double_slash, parse_body, with_tail, before_tail, parse_parts, split_scheme, base_for_scheme, parse_by_scheme, parse_url}
use Rattle.url.proofs.InputLemmas.{IsNot, Passes, StopsAt, split_once_at, split_once_none, rsplit_once_at, prefix_len_at, filter_all, is_empty_nonempty}
use Rattle.url.proofs.SetLemmas.{All_kept_differs}
use Rattle.url.proofs.SchemeLemmas.{scheme_bytes}
use Rattle.url.proofs.ValidLemmas.{segment_list_kept, hierarchical, special_has_authority, base_from_authority}
use Rattle.url.proofs.PathLemmas.{rooted}
use Rattle.url.proofs.SetterLemmas.{own_host}
use Rattle.url.proofs.TextLemmas.{All_kept, is_host_byte, is_authority_byte, host_and_port_bytes}
use Rattle.url.proofs.HostRoundTrip.{parse_special_host-host_text}
use Rattle.url.proofs.ParsedCanonical.{before_special}
use Rattle.url.proofs.RoundTrip.{stays_unless_file, parse_own_path, stops_at_path, split_own_scheme, parse_own_authority, host_nonempty}

-- ---- nothing is trimmed, stripped or cut off

-- above a space, and neither `#` nor `?`
abbrev is_plain_byte : ℕ → Bool
is_plain_byte b = ltb 32 b && not (b == 35 || b == 63)

abbrev IsPlain : List ℕ → Type 0
IsPlain text = All (Passes is_plain_byte) text

plain_turned : (text : List ℕ) → IsPlain text → IsPlain (reverse text)
plain_turned [] plain = plain
plain_turned (b ∷ text) plain =
    let P = Passes is_plain_byte in
    subst IsPlain (sym (reverse-append (b ∷ []) text)) (All-append P (reverse text) (b ∷ []) (plain_turned text (All-tail P b text plain)) (All-cons P b [] (All-head P b text plain) (All-nil P)))

plain_front : (text : List ℕ) → IsPlain text → StopsAt is_c0_control_or_space text
plain_front [] plain = tt
plain_front (b ∷ text) plain = let passes = All-head (Passes is_plain_byte) b text plain in grind (arith, nat_tests)

none_trimmed : (text : List ℕ) → IsPlain text → prefix_len is_c0_control_or_space text ≡ 0
none_trimmed text plain =
    prefix_len_at is_c0_control_or_space [] text (All-nil (Passes is_c0_control_or_space)) (plain_front text plain)

untrimmed : (text : List ℕ) → IsPlain text → trim_c0_control_and_space text ≡ text
unfolding trim_c0_control_and_space
untrimmed text plain =
    let start = none_trimmed text plain in
    let end = none_trimmed (reverse text) (plain_turned text plain) in
    rw (start, end) (take_all _ text (omega arith))

unstripped : (text : List ℕ) → IsPlain text → strip_tabs_and_new_lines text ≡ text
unfolding strip_tabs_and_new_lines
unstripped text plain =
    filter_all _ text (All-weaker (Passes is_plain_byte) (Passes (λ b. not (is_tab_or_new_line b))) (λ b passes. grind (arith, nat_tests)) text plain)

plain_text : (scheme body : List ℕ) → IsScheme scheme → IsPlain (scheme ++ 58 ∷ body) → parse_url None (scheme ++ 58 ∷ body) ≡ parse_parts scheme None body None None
unfolding parse_url
plain_text scheme body valid plain =
    let text = scheme ++ 58 ∷ body in
    let lacks = λ (c : ℕ) (other : is_plain_byte c ≡ false). All-weaker (Passes is_plain_byte) (IsNot c) (λ b passes same. let both = sym (rw same at passes) ∙ other in cc) text plain in
    let clean = ap strip_tabs_and_new_lines (untrimmed text plain) ∙ unstripped text plain in
    let hash = ap (split_once 35) clean ∙ split_once_none 35 text (lacks 35 refl) in
    let question = ap (λ r. split_once 63 r.0) hash ∙ split_once_none 63 text (lacks 63 refl) in
    let split = ap (λ r. split_scheme r.0) question ∙ split_own_scheme scheme body valid in
    (λ i. parse_by_scheme (split i) None (question i).0 (question i).1 (hash i).1)
    ∙ ap (λ s. parse_parts s (base_for_scheme None s) body None None) valid.lower

-- ---- the authority and the path

no_slash_first : (text more : List ℕ) → 0 < length text → All (Passes is_authority_byte) text → StopsAt (λ b. b == 47 || b == 92) (text ++ more)
no_slash_first [] more some all = absurd (omega arith)
no_slash_first (b ∷ text) more some all =
    let passes = All-head (Passes is_authority_byte) b text all in grind (arith, nat_tests)

after_slashes : (url : Parts) (authority : List ℕ) → IsValid url → kind_of url ≡ SpecialNotFile → All (Passes is_authority_byte) authority → parse_authority url.scheme authority ≡ Ok (head_only url) → after_double_slash url.scheme (authority ++ url.path) ≡ Ok (without_tail url)
unfolding after_double_slash
after_slashes url authority valid kind bytes parses =
    let has = special_has_authority url valid.head (ap is_special kind) in
    let path = hierarchical url valid.path (base_from_authority url has) in
    let test = λ (b : ℕ). not (is_slash (kind_of url) b) in
    let whole = All-weaker (Passes is_authority_byte) (Passes test) (λ b passes. grind (arith, nat_tests)) authority bytes in
    let len = prefix_len_at test authority url.path whole (stops_at_path (kind_of url) url.path (rooted (kind_of url) url.path path.0)) in
    let front = ap (λ n. take n (authority ++ url.path)) len ∙ take_at authority url.path _ refl in
    let back = ap (λ n. drop n (authority ++ url.path)) len ∙ drop_at authority url.path _ refl in
    ap (λ r. and_then r (λ head. Ok (with_path head (parse_path_start (kind_of url) [] (drop (segment_len (kind_of url) (authority ++ url.path)) (authority ++ url.path)))))) (ap (parse_authority url.scheme) front ∙ parses)
    ∙ ap (λ p. Ok (with_path (head_only url) p)) (ap (parse_path_start (kind_of url) []) back ∙ parse_own_path (kind_of url) url.path (stays_unless_file (kind_of url) [] _ (ap is_file kind)) path.0 path.1)

body_parts : (url : Parts) (authority : List ℕ) → IsValid url → kind_of url ≡ SpecialNotFile → 0 < length authority → All (Passes is_authority_byte) authority → parse_authority url.scheme authority ≡ Ok (head_only url) → parse_parts url.scheme None (47 ∷ 47 ∷ (authority ++ url.path)) None None ≡ Ok (without_tail url)
unfolding parse_parts parse_body
body_parts url authority valid kind some bytes parses =
    let body = 47 ∷ 47 ∷ (authority ++ url.path) in
    let test = λ (b : ℕ). b == 47 || b == 92 in
    let slashes = prefix_len_at test (47 ∷ 47 ∷ []) (authority ++ url.path) (All-cons (Passes test) 47 (47 ∷ []) refl (All-cons (Passes test) 47 [] refl (All-nil (Passes test)))) (no_slash_first authority url.path some bytes) in
    let parsed = cond-false _ _ _ (ap is_file kind) ∙ cond-true _ _ _ (ap is_special kind)
    ∙ ap (λ n. after_double_slash url.scheme (drop n body)) slashes ∙ after_slashes url authority valid kind bytes parses in
    ap (λ r. and_then r (λ u. Ok (with_tail (before_tail u None None) None None))) parsed
    ∙ ap (λ u. Ok (with_tail u None None)) (before_special (without_tail url) None None (ap is_special kind))

-- The text of a special URL without query and fragment is parsed to it, however its authority is written.
pub parse_by_authority : (url : Parts) (authority : List ℕ) → IsValid url → kind_of url ≡ SpecialNotFile → 0 < length authority → All (Passes is_authority_byte) authority → parse_authority url.scheme authority ≡ Ok (head_only url) → parse_url None (url.scheme ++ 58 ∷ 47 ∷ 47 ∷ (authority ++ url.path)) ≡ Ok (without_tail url)
parse_by_authority url authority valid kind some bytes parses =
    let P = Passes is_plain_byte in
    let has = special_has_authority url valid.head (ap is_special kind) in
    let path = hierarchical url valid.path (base_from_authority url has) in
    let scheme = All-weaker (Passes is_scheme_byte) P (λ b passes. grind (arith, nat_tests)) url.scheme (scheme_bytes url.scheme valid.head.scheme) in
    let front = All-weaker (Passes is_authority_byte) P (λ b passes. grind (arith, nat_tests)) authority bytes in
    let back = All_kept is_plain_byte PATH refl url.path (segment_list_kept (kind_of url) url.path path.0) in
    let body = All-cons P 47 (47 ∷ (authority ++ url.path)) refl (All-cons P 47 (authority ++ url.path) refl (All-append P authority url.path front back)) in
    plain_text url.scheme (47 ∷ 47 ∷ (authority ++ url.path)) valid.head.scheme (All-append P url.scheme (58 ∷ 47 ∷ 47 ∷ (authority ++ url.path)) scheme (All-cons P 58 (47 ∷ 47 ∷ (authority ++ url.path)) refl body))
    ∙ body_parts url authority valid kind some bytes parses

-- ---- a user name and a colon

-- the host and the port
abbrev pub place : Parts → List ℕ
place url = text_between url BeforeHost AfterPort

-- the user name, a colon and the password, even an empty one
abbrev pub keyed : Parts → List ℕ
keyed url = url.username ++ 58 ∷ (url.password ++ 64 ∷ place url)

-- an empty password reads as none
same_authority : (scheme name rest : List ℕ) → All (IsNot 58) name → All (IsNot 64) rest → parse_authority scheme (name ++ 58 ∷ 64 ∷ rest) ≡ parse_authority scheme (name ++ 64 ∷ rest)
unfolding parse_authority
same_authority scheme name rest no_colon no_sign =
    let colon = ap (rsplit_once 64) (sym (append_assoc name (58 ∷ []) (64 ∷ rest))) ∙ rsplit_once_at 64 (name ++ 58 ∷ []) rest no_sign in
    let bare = rsplit_once_at 64 name rest no_sign in
    let long = split_once_at 58 name [] no_colon in
    let short = split_once_none 58 name no_colon in
    rw (colon, bare, long, short) refl

own_text : (url : Parts) (password : List ℕ) → url.password ≡ password → IsValidHead url → 0 < length url.username → parse_authority url.scheme (url.username ++ 58 ∷ (password ++ 64 ∷ place url)) ≡ parse_authority url.scheme (text_between url BeforeUsername AfterPort)
own_text url [] e valid some =
    let none = All_kept_differs USERINFO 58 refl url.username valid.username in
    let sign = All-weaker (Passes is_host_byte) (IsNot 64) (λ b passes same. grind (arith, nat_tests)) (place url) (host_and_port_bytes url valid) in
    let text : text_between url BeforeUsername AfterPort ≡ url.username ++ 64 ∷ place url = rw (e, is_empty_nonempty url.username some) refl in
    same_authority url.scheme url.username (place url) none sign ∙ ap (parse_authority url.scheme) (sym text)
own_text url (b ∷ password) e valid some =
    let more = is_empty_nonempty (b ∷ password) (omega arith) in
    let text : text_between url BeforeUsername AfterPort ≡ url.username ++ 58 ∷ ((b ∷ password) ++ 64 ∷ place url) = rw (e, is_empty_nonempty url.username some, more) refl in
    ap (parse_authority url.scheme) (sym text)

keyed_bytes : (url : Parts) → IsValidHead url → All (Passes is_authority_byte) (keyed url)
keyed_bytes url valid =
    let P = Passes is_authority_byte in
    let word = All_kept is_authority_byte USERINFO refl in
    let rest = All-weaker (Passes is_host_byte) P (λ b passes. rw passes) (place url) (host_and_port_bytes url valid) in
    All-append P url.username (58 ∷ (url.password ++ 64 ∷ place url)) (word url.username valid.username)
    (All-cons P 58 (url.password ++ 64 ∷ place url) refl (All-append P url.password (64 ∷ place url) (word url.password valid.password) (All-cons P 64 (place url) refl rest)))

-- A special URL with a user name is read back from its text with a colon after that name, with a password or without one.
pub parse_keyed : (url : Parts) → IsValid url → kind_of url ≡ SpecialNotFile → 0 < length url.username → parse_url None (url.scheme ++ 58 ∷ 47 ∷ 47 ∷ (keyed url ++ url.path)) ≡ Ok (without_tail url)
parse_keyed url valid kind some =
    let has = special_has_authority url valid.head (ap is_special kind) in
    let host = host_or_empty url in
    let is_host = subst (λ k. IsHostOf k host) kind (own_host url valid.head has) in
    let nonempty = host_nonempty host is_host in
    let own = parse_own_authority url valid.head has (ap (λ k. parse_host k (host_text host)) kind ∙ parse_special_host-host_text host is_host) (and_left _ _ (is_empty_nonempty _ nonempty)) in
    let long : 0 < length (keyed url) = simp length-append (omega arith) in
    parse_by_authority url (keyed url) valid kind long (keyed_bytes url valid.head) (own_text url url.password refl valid.head some ∙ own)
