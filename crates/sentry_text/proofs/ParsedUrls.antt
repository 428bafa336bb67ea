-- What the parser of URLs gives of bytes is valid.
use Rattle.std.proofs.Common.{◌≡◌, ◌≢◌, ℕ, ◌+◌, ◌^◌, ◌<◌, Bool, true, false, not, ◌&&◌, ◌||◌, ◌==◌, List, [], ◌∷◌, ◌++◌, length, get_or, take, drop, Option, Some, None, Ok, Err, All, refl, sym, ap, ◌∙◌, subst, inl, inr, ⊎_elim, arith, ltb-true}
use Rattle.std.specs.Prelude.{is_some, unwrap_or, codes, nat_eq, nat_lt, filter}
use Rattle.std.specs.List.{list_all}
use Rattle.std.specs.Char.{is_ascii_digit}
use Rattle.std.specs.Option.{option_eq}
use Rattle.std.specs.Str.Parse.{digits_value}
use Rattle.std.proofs.lemmas.Bool.{cond-true, cond-false, cond_both, cases_Bool, true≢false, and_parts, eq-eqb}
use Rattle.std.proofs.lemmas.Bool.Decides.{nat_tests}
use Rattle.std.proofs.lemmas.List.Elements.{All-nil, All-cons, All-head, All-tail, All-append, All-take, All-drop}
use Rattle.percent_encoding.specs.Percent.{IsKept, percent_encode}
use Rattle.url.specs.declared.host.Host.{Host}
use Rattle.url.specs.declared.host.Host.TheVariants.{Domain}
use Rattle.url.specs.declared.scheme.SchemeType.{SchemeType}
use Rattle.url.specs.declared.scheme.SchemeType.TheVariants.{File, NotSpecial}
use Rattle.url.specs.declared.sets.TheConstants.{USERINFO, OPAQUE_PATH}
use Rattle.url.specs.Input.{is_empty, lowercase, split_once, rsplit_once, trim_c0_control_and_space, strip_tabs_and_new_lines}
use Rattle.url.specs.Scheme.{IsScheme, default_port, scheme_type, scheme_len, is_special, is_file, is_slash}
use Rattle.url.specs.Host.{is_empty_host, parse_host, parse_file_host, IsHostOf}
use Rattle.url.specs.Path.{escape_end, is_windows_drive_letter, segment_len, push_segment, parse_segments, parse_path, parse_path_start, IsSegmentList}
use Rattle.url.specs.Parts.{Parts, kind_of, IsPortOf, IsValidHead, IsHierarchicalPath, IsValidPath, IsValid}
use Rattle.url.specs.Head.{scheme_only, with_authority}
use Rattle.url.specs.Parser.{Parsed, and_then, leading_slashes, file_with_host, parse_file, after_file_double_slash, parse_non_special, split_port, without_default_port, parse_port, lacks_host, parse_authority, with_path, skip_slashes, after_double_slash, parse_body, with_tail, before_tail, parse_parts, split_scheme, parse_by_scheme, parse_url}
use Rattle.url.proofs.LayoutLemmas.{IsValidHead_same}
use Rattle.url.proofs.ParsedCanonical.{escape_end_valid}
use Rattle.url.proofs.PathLemmas.{IsNoSlash, no_segments, push_segment_valid, push_last_nonempty}
use Rattle.url.proofs.SchemeLemmas.{scheme_at_front, IsScheme_file, scheme_type_file, not_special_from}
use Rattle.url.proofs.SetLemmas.{encoded_is_kept}
use Rattle.url.proofs.SetterLemmas.{empty_domain, valid_with_authority, opaque_parsed}
use Rattle.url.proofs.ValidLemmas.{IsValid-with_tail}
use Rattle.sentry_text.proofs.UrlHosts.{file_host_valid, host_valid}
use Rattle.sentry_text.proofs.Utf8Bytes.{IsByte}

-- a step that gave something was given something
given : {T U : Type 0} (r : Parsed T) (next : T → Parsed U) (u : U) → and_then r next ≡ Ok u → (x : T) × (r ≡ Ok x) × (next x ≡ Ok u)
given (Ok x) next u e = (x, refl, e)
given (Err f) next u e = absurd (cc)

not_file : (kind : SchemeType) → is_file kind ≡ false → kind ≡ File → ⊥
not_file kind other same = true≢false (sym (ap is_file same) ∙ other)

-- ---- the port

kept_port : (scheme : List ℕ) (n : ℕ) → n < 2 ^ 16 → IsPortOf scheme (without_default_port scheme (Some n))
kept_port scheme n small =
    cond_both (option_eq nat_eq (Some n) (default_port scheme)) None (Some n) (IsPortOf scheme)
    (λ _. tt)
    (λ other. (small, λ same. true≢false (sym (ap (option_eq nat_eq (Some n)) same ∙ eq-eqb n n refl) ∙ other)))

port_valid : (scheme digits : List ℕ) (port : Option ℕ) → parse_port scheme digits ≡ Ok port → IsPortOf scheme port
unfolding parse_port
port_valid scheme digits port e =
    let n = digits_value 10 digits in
    ⊎_elim
    (λ empty. let same : None ≡ port = let both = sym (cond-true _ _ _ empty) ∙ e in cc in subst (IsPortOf scheme) same tt)
    (λ some.
    let rest = sym (cond-false _ _ _ some) ∙ e in
    ⊎_elim
    (λ fits.
    let same : without_default_port scheme (Some n) ≡ port = let both = sym (cond-true _ _ _ fits) ∙ rest in cc in
    subst (IsPortOf scheme) same (kept_port scheme n (ltb-true n (2 ^ 16) (and_parts (list_all is_ascii_digit digits) (nat_lt n (2 ^ 16)) fits).1)))
    (λ none. let never = sym (cond-false _ _ _ none) ∙ rest in absurd (cc))
    (cases_Bool (list_all is_ascii_digit digits && nat_lt n (2 ^ 16))))
    (cases_Bool (is_empty digits))

no_digits : (scheme : List ℕ) (port : Option ℕ) → parse_port scheme [] ≡ Ok port → port ≡ None
unfolding parse_port
no_digits scheme port e = cc

-- ---- the authority

-- the user name, the password and the digits of the port are empty
record Bare (userinfo port : Option (List ℕ)) : Type 0 where
  username : (split_once 58 (unwrap_or userinfo [])).0 ≡ []
  password : unwrap_or (split_once 58 (unwrap_or userinfo [])).1 [] ≡ []
  digits : unwrap_or port [] ≡ []

-- nothing stands around a host that is empty
bare_of : (userinfo port : Option (List ℕ)) → (is_some userinfo || is_some port) ≡ false → Bare userinfo port
unfolding split_once
bare_of None None none = record { username = refl; password = refl; digits = refl }
bare_of None (Some p) none = absurd (true≢false none)
bare_of (Some u) port none = absurd (true≢false none)

lacks_none : (userinfo : Option (List ℕ)) (host : List ℕ) (port : Option (List ℕ)) → lacks_host userinfo host port ≡ false → is_empty host ≡ true → (is_some userinfo || is_some port) ≡ false
lacks_none userinfo host port has empty = sym (ap (λ b. b && (is_some userinfo || is_some port)) empty) ∙ has

authority_valid : (scheme bytes : List ℕ) (head : Parts) → is_file (scheme_type scheme) ≡ false → IsScheme scheme → parse_authority scheme bytes ≡ Ok head → IsValidHead head × (head.scheme ≡ scheme)
unfolding parse_authority
authority_valid scheme bytes head other valid e =
    let at = rsplit_once 64 bytes in
    let host_port = split_port at.1 in
    let userinfo = split_once 58 (unwrap_or at.0 []) in
    ⊎_elim
    (λ lacks. let never = sym (cond-true _ _ _ lacks) ∙ e in absurd (cc))
    (λ has.
    let hosted = given (parse_host (scheme_type scheme) host_port.0) _ head (sym (cond-false _ _ _ has) ∙ e) in
    let ported = given (parse_port scheme (unwrap_or host_port.1 [])) _ head hosted.2 in
    let host = hosted.0 in
    let fits = host_valid (scheme_type scheme) host_port.0 host (not_file _ other) hosted.1 in
    let made : with_authority scheme userinfo.0 (unwrap_or userinfo.1 []) host ported.0 ≡ head = let both = ported.2 in cc in
    let bare : (is_empty_host host || is_file (scheme_type scheme)) ≡ true → (userinfo.0 ≡ []) × (unwrap_or userinfo.1 [] ≡ []) × (ported.0 ≡ None) =
    λ cannot.
    let empty : is_empty_host host ≡ true = grind arith in
    let none = bare_of at.0 host_port.1 (lacks_none at.0 host_port.0 host_port.1 has (fits.1 empty)) in
    (none.username, none.password, no_digits scheme ported.0 (ap (parse_port scheme) (sym none.digits) ∙ ported.1)) in
    subst (λ (h : Parts). IsValidHead h × (h.scheme ≡ scheme)) made (
      valid_with_authority scheme userinfo.0 (unwrap_or userinfo.1 []) host ported.0 valid fits.0 (port_valid scheme _ ported.0 ported.1) bare,
      refl,
    ))
    (cases_Bool (lacks_host at.0 host_port.0 host_port.1))

-- ---- the path

-- segments, of which there is one
abbrev IsPath : SchemeType → List ℕ → Type 0
IsPath kind path = IsSegmentList kind path × (0 < length path)

segments_valid : (kind : SchemeType) (bytes path segment : List ℕ) → All IsByte segment → All IsByte bytes → All (IsNoSlash kind) segment → IsSegmentList kind path → IsPath kind (parse_segments kind path segment bytes)
unfolding parse_segments
segments_valid kind [] path segment read left whole list =
    (push_segment_valid kind path segment true read whole list, push_last_nonempty kind path segment)
segments_valid kind (b ∷ bytes) path segment read left whole list =
    let byte = All-head IsByte b bytes left in
    let rest = All-tail IsByte b bytes left in
    cond_both (is_slash kind b) _ _ (IsPath kind)
    (λ _. segments_valid kind bytes (push_segment kind path segment false) [] (All-nil IsByte) rest (All-nil (IsNoSlash kind)) (push_segment_valid kind path segment false read whole list))
    (λ other. segments_valid kind bytes path (segment ++ b ∷ []) (All-append IsByte segment (b ∷ []) read (All-cons IsByte b [] byte (All-nil IsByte))) rest (All-append (IsNoSlash kind) segment (b ∷ []) whole (All-cons (IsNoSlash kind) b [] other (All-nil (IsNoSlash kind)))) list)

path_valid : (kind : SchemeType) (bytes : List ℕ) → All IsByte bytes → IsHierarchicalPath kind (parse_path kind [] bytes)
path_valid kind bytes all =
    let path = segments_valid kind bytes [] [] (All-nil IsByte) all (All-nil (IsNoSlash kind)) (no_segments kind) in
    (path.0, λ _. path.1)

path_start_valid : (kind : SchemeType) (bytes : List ℕ) → All IsByte bytes → IsHierarchicalPath kind (parse_path_start kind [] bytes)
unfolding parse_path_start
path_start_valid kind bytes all =
    cond_both (is_empty bytes && not (is_special kind)) _ _ (IsHierarchicalPath kind)
    (λ opaque. (no_segments kind, λ special. absurd (true≢false (sym (and_parts _ _ opaque).1 ∙ ap not special))))
    (λ _. cond_both (is_slash kind (get_or bytes 0 0)) _ _ (IsHierarchicalPath kind)
    (λ _. path_valid kind (drop 1 bytes) (All-drop IsByte 1 bytes all))
    (λ _. path_valid kind bytes all))

-- ---- the body

-- the head and the path are valid
abbrev IsBody : Parts → Type 0
IsBody url = IsValidHead url × IsValidPath url

with_path_valid : (scheme : List ℕ) (head : Parts) (path : List ℕ) → IsValidHead head → head.scheme ≡ scheme → IsHierarchicalPath (scheme_type scheme) path → IsBody (with_path head path)
with_path_valid scheme head path valid same listed =
    (IsValidHead_same head (with_path head path) refl valid, inl (subst (λ s. IsHierarchicalPath (scheme_type s) path) (sym same) listed))

double_slash_valid : (scheme bytes : List ℕ) (url : Parts) → is_file (scheme_type scheme) ≡ false → IsScheme scheme → All IsByte bytes → after_double_slash scheme bytes ≡ Ok url → IsBody url
unfolding after_double_slash
double_slash_valid scheme bytes url other valid all e =
    let len = segment_len (scheme_type scheme) bytes in
    let authority = given (parse_authority scheme (take len bytes)) _ url e in
    let head = authority.0 in
    let is_head = authority_valid scheme (take len bytes) head other valid authority.1 in
    let path = parse_path_start (scheme_type scheme) [] (drop len bytes) in
    let made : with_path head path ≡ url = let both = authority.2 in cc in
    subst IsBody made (with_path_valid scheme head path is_head.0 is_head.1 (path_start_valid (scheme_type scheme) (drop len bytes) (All-drop IsByte len bytes all)))

-- ---- the body of a `file` URL

abbrev file : List ℕ
file = codes "file"

file_head : (host : Host (List ℕ)) → IsHostOf File host → IsValidHead (file_with_host host)
file_head host fits =
    valid_with_authority file [] [] host None IsScheme_file (subst (λ k. IsHostOf k host) (sym scheme_type_file) fits) tt (λ _. (refl, refl, refl))

file_url : (host : Host (List ℕ)) (path : List ℕ) → IsHostOf File host → IsHierarchicalPath File path → IsBody (with_path (file_with_host host) path)
file_url host path fits listed =
    with_path_valid file (file_with_host host) path (file_head host fits) refl (subst (λ k. IsHierarchicalPath k path) (sym scheme_type_file) listed)

-- what is given is valid
abbrev IsGiven : Parsed Parts → Type 0
IsGiven r = (url : Parts) → r ≡ Ok url → IsBody url

gives : (made : Parts) → IsBody made → IsGiven (Ok made)
gives made valid url e = let same : made ≡ url = cc in subst IsBody same valid

file_valid : (body : List ℕ) → All IsByte body → IsGiven (parse_file None body)
unfolding parse_file after_file_double_slash
file_valid body all =
    let slashes = leading_slashes File body in
    let rest = drop slashes body in
    let bytes = All-drop IsByte slashes body all in
    let len = segment_len File rest in
    cond_both (slashes == 2) _ _ IsGiven
    (λ _. cond_both (is_windows_drive_letter (take len rest)) _ _ IsGiven
    (λ _. gives (with_path (file_with_host (Domain [])) (parse_path File [] rest)) (file_url (Domain []) (parse_path File [] rest) empty_domain (path_valid File rest bytes)))
    (λ _ url e.
    let hosted = given (parse_file_host (take len rest)) _ url e in
    let path = parse_path_start File [] (drop len rest) in
    gives (with_path (file_with_host hosted.0) path) (file_url hosted.0 path (file_host_valid (take len rest) hosted.0 hosted.1) (path_start_valid File (drop len rest) (All-drop IsByte len rest bytes))) url hosted.2))
    (λ _. gives (with_path (file_with_host (Domain [])) (parse_path File [] rest)) (file_url (Domain []) (parse_path File [] rest) empty_domain (path_valid File rest bytes)))

-- ---- the body of a URL whose scheme is not special

plain_head : (scheme : List ℕ) → IsScheme scheme → is_special (scheme_type scheme) ≡ false → IsValidHead (scheme_only scheme)
plain_head scheme valid plain = record {
  scheme = valid;
  username = All-nil (IsKept USERINFO);
  password = All-nil (IsKept USERINFO);
  host = plain;
  port = tt;
  bare = λ _. (refl, refl, refl);
}

-- a text that begins with neither one slash nor two begins with none
no_slash_first : (body : List ℕ) → (leading_slashes NotSpecial body == 2) ≡ false → (leading_slashes NotSpecial body == 1) ≡ false → get_or body 0 0 ≢ 47
unfolding leading_slashes
no_slash_first [] two one slash = omega arith
no_slash_first (b ∷ []) two one slash = let some = rw slash at one in true≢false some
no_slash_first (b ∷ c ∷ rest) two one slash =
    let second = rw slash at two in
    let first = rw slash at one in
    ⊎_elim
    (λ again. true≢false (rw again at second))
    (λ other. true≢false (rw other at first))
    (cases_Bool (is_slash NotSpecial c))

opaque_url : (scheme body : List ℕ) → IsScheme scheme → is_special (scheme_type scheme) ≡ false → get_or body 0 0 ≢ 47 → IsBody (with_path (scheme_only scheme) (percent_encode OPAQUE_PATH body))
opaque_url scheme body valid plain other =
    let first = opaque_parsed body other in
    (IsValidHead_same (scheme_only scheme) (with_path (scheme_only scheme) (percent_encode OPAQUE_PATH body)) refl (plain_head scheme valid plain), inr (grind (arith, nat_tests), encoded_is_kept OPAQUE_PATH OPAQUE_PATH refl refl body))

plain_valid : (scheme body : List ℕ) → IsScheme scheme → is_special (scheme_type scheme) ≡ false → is_file (scheme_type scheme) ≡ false → All IsByte body → IsGiven (parse_non_special scheme body)
unfolding parse_non_special
plain_valid scheme body valid plain other all =
    let slashes = leading_slashes NotSpecial body in
    let path = parse_path NotSpecial [] (drop 1 body) in
    cond_both (slashes == 2) _ _ IsGiven
    (λ _ url e. double_slash_valid scheme (drop 2 body) url other valid (All-drop IsByte 2 body all) e)
    (λ two. cond_both (slashes == 1) _ _ IsGiven
    (λ _. gives (with_path (scheme_only scheme) path)
    (with_path_valid scheme (scheme_only scheme) path (plain_head scheme valid plain) refl (subst (λ k. IsHierarchicalPath k path) (sym (not_special_from (scheme_type scheme) plain)) (path_valid NotSpecial (drop 1 body) (All-drop IsByte 1 body all)))))
    (λ one. gives (with_path (scheme_only scheme) (percent_encode OPAQUE_PATH body)) (opaque_url scheme body valid plain (no_slash_first body two one))))

body_valid : (scheme body : List ℕ) → IsScheme scheme → All IsByte body → IsGiven (parse_body scheme None body)
unfolding parse_body
body_valid scheme body valid all =
    cond_both (is_file (scheme_type scheme)) _ _ IsGiven
    (λ _. file_valid body all)
    (λ other. cond_both (is_special (scheme_type scheme)) _ _ IsGiven
    (λ _ url e. double_slash_valid scheme (skip_slashes body) url other valid (All-drop IsByte _ body all) e)
    (λ plain. plain_valid scheme body valid plain other all))

-- ---- the whole

before_tail_valid : (url : Parts) (query fragment : Option (List ℕ)) → IsBody url → IsBody (before_tail url query fragment)
before_tail_valid url query fragment valid =
    cond_both (not (is_special (kind_of url)) && (is_some query || is_some fragment)) (with_path url (escape_end url.path)) url IsBody
    (λ _. (IsValidHead_same url (with_path url (escape_end url.path)) refl valid.0, escape_end_valid url valid.1))
    (λ _. valid)

parts_valid : (scheme body : List ℕ) (query fragment : Option (List ℕ)) (url : Parts) → IsScheme scheme → All IsByte body → parse_parts scheme None body query fragment ≡ Ok url → IsValid url
unfolding parse_parts
parts_valid scheme body query fragment url valid all e =
    let parsed = given (parse_body scheme None body) _ url e in
    let head = parsed.0 in
    let told : with_tail (before_tail head query fragment) query fragment ≡ url = let both = parsed.2 in cc in
    let is_body = before_tail_valid head query fragment (body_valid scheme body valid all head parsed.1) in
    subst IsValid told (IsValid-with_tail (before_tail head query fragment) query fragment is_body.0 is_body.1)

split_valid : (bytes word body : List ℕ) → split_scheme bytes ≡ Some (word, body) → All IsByte bytes → IsScheme (lowercase word) × All IsByte body
unfolding split_scheme
split_valid bytes word body e all =
    let len = scheme_len bytes in
    ⊎_elim
    (λ found.
    let some = sym (cond-true _ _ _ found) ∙ e in
    let front : take len bytes ≡ word = ap (λ (o : Option (List ℕ × List ℕ)). (unwrap_or o (word, body)).0) some in
    let back : drop (len + 1) bytes ≡ body = ap (λ (o : Option (List ℕ × List ℕ)). (unwrap_or o (word, body)).1) some in
    let positive : 0 < len = ltb-true 0 len (and_parts (nat_lt 0 len) (get_or bytes len 0 == 58) found).0 in (
      subst (λ w. IsScheme (lowercase w)) front (scheme_at_front bytes len refl positive).1,
      subst (All IsByte) back (All-drop IsByte (len + 1) bytes all),
    ))
    (λ none. let never = sym (cond-false _ _ _ none) ∙ e in absurd (cc))
    (cases_Bool (nat_lt 0 len && get_or bytes len 0 == 58))

by_scheme : (bytes : List ℕ) (split : Option (List ℕ × List ℕ)) (query fragment : Option (List ℕ)) (url : Parts) → split_scheme bytes ≡ split → All IsByte bytes → parse_by_scheme split None bytes query fragment ≡ Ok url → IsValid url
by_scheme bytes None query fragment url s all e = absurd (cc)
by_scheme bytes (Some (word, body)) query fragment url s all e =
    let both = split_valid bytes word body s all in parts_valid (lowercase word) body query fragment url both.0 both.1 e

trimmed_bytes : (text : List ℕ) → All IsByte text → All IsByte (trim_c0_control_and_space text)
unfolding trim_c0_control_and_space
trimmed_bytes text all = All-take IsByte _ _ (All-drop IsByte _ text all)

filtered_bytes : (test : ℕ → Bool) (text : List ℕ) → All IsByte text → All IsByte (filter test text)
filtered_bytes test [] all = all
filtered_bytes test (b ∷ text) all =
    let rest = filtered_bytes test text (All-tail IsByte b text all) in
    cond_both (test b) _ _ (All IsByte) (λ _. All-cons IsByte b (filter test text) (All-head IsByte b text all) rest) (λ _. rest)

stripped_bytes : (text : List ℕ) → All IsByte text → All IsByte (strip_tabs_and_new_lines text)
unfolding strip_tabs_and_new_lines
stripped_bytes text all = filtered_bytes _ text all

front_bytes : (mark : ℕ) (text : List ℕ) → All IsByte text → All IsByte (split_once mark text).0
unfolding split_once
front_bytes mark [] all = all
front_bytes mark (b ∷ text) all =
    let rest = front_bytes mark text (All-tail IsByte b text all) in
    cond_both (b == mark) ([], Some text) (b ∷ (split_once mark text).0, (split_once mark text).1) (λ (r : List ℕ × Option (List ℕ)). All IsByte r.0)
    (λ _. All-nil IsByte) (λ _. All-cons IsByte b (split_once mark text).0 (All-head IsByte b text all) rest)

-- the URL of a text is valid
pub parsed_valid : (text : List ℕ) (url : Parts) → All (λ b. b < 256) text → parse_url None text ≡ Ok url → IsValid url
unfolding parse_url
parsed_valid text url all e =
    let clean = stripped_bytes (trim_c0_control_and_space text) (trimmed_bytes text all) in
    let hash = front_bytes 35 _ clean in
    let question = front_bytes 63 _ hash in
    by_scheme _ _ _ _ url refl question e
