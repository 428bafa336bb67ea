-- A DSN of a valid URL is read back from its text.
use Rattle.std.proofs.Common.{◌≡◌, ◌≢◌, inl, inr, ⊎_elim, ℕ, ◌<◌, Bool, cond, ltb, List, [], ◌∷◌, ◌++◌, length, Option, Some, None, Ok, IsAscii, IsUtf8, All, refl, sym, ap, subst, ◌∙◌, append_assoc, append-nil, arith, length-append, lit<}
use Rattle.std.specs.Prelude.{codes, decimal, is_some, unwrap_or, option_map, MatchResult, IfOk, Result, Ok, Err}
use Rattle.std.proofs.lemmas.Bool.{cases_Bool, cond-true, cond-false}
use Rattle.std.proofs.lemmas.Bool.Decides.{nat_tests}
use Rattle.std.proofs.lemmas.Fmt.{IsAscii-decimal}
use Rattle.std.proofs.lemmas.List.Elements.{All-weaker}
use Rattle.std.proofs.lemmas.Str.{IsAscii-append}
use Rattle.std.proofs.lemmas.Str.Ascii.{IsAscii-nil, IsAscii-cons, IsAscii-from_all}
use Rattle.url.specs.declared.host.Host.{Host}
use Rattle.url.specs.declared.scheme.SchemeType.TheVariants.{SpecialNotFile}
use Rattle.url.specs.declared.sets.TheConstants.{PATH, USERINFO}
use Rattle.url.specs.Host.{host_text}
use Rattle.url.specs.Input.{is_empty, when}
use Rattle.url.specs.Scheme.{default_port, scheme_type, is_special}
use Rattle.url.specs.Parts.{Parts, kind_of, has_host, host_or_empty, nonempty_host, IsPortOf, IsValid}
use Rattle.url.specs.Head.{without_tail}
use Rattle.url.specs.Parser.{parse_url}
use Rattle.url.proofs.HostLemmas.{IsAscii-host_text}
use Rattle.url.proofs.InputLemmas.{Passes, is_empty_nonempty}
use Rattle.url.proofs.LayoutLemmas.{IsValidHead_same}
use Rattle.url.proofs.SchemeLemmas.{IsAscii-scheme}
use Rattle.url.proofs.SetterLemmas.{own_host}
use Rattle.url.proofs.TextLemmas.{All_kept}
use Rattle.url.proofs.ValidLemmas.{segment_list_kept, hierarchical, special_has_authority, base_from_authority}
use Rattle.sentry_text.proofs.UrlTrees.{named_valid}
use Rattle.sentry_keys.specs.declared.dsn.Dsn.{Dsn}
use Rattle.sentry_keys.specs.declared.scheme.Scheme.{Scheme}
use Rattle.sentry_keys.specs.declared.scheme.Scheme.TheVariants.{Http, Https}
use Rattle.sentry_keys.specs.DsnScheme.{scheme_text}
use Rattle.sentry_keys.specs.DsnPath.{IsSplit, inner}
use Rattle.sentry_keys.specs.Dsn.{DsnParts, dsn_parts, IsDsn, IsDsnText, DsnReadsBack, dsn_text, port_text}
use Rattle.sentry_keys.proofs.DsnPaths.{inner_again, inner_valid}
use Rattle.sentry_keys.proofs.DsnAuthorities.{keyed, parse_keyed}

-- ---- the URL that is printed

-- without query and fragment, and without the outer slashes of the path
abbrev printed : Parts → Parts
printed url = record (without_tail url) { path = 47 ∷ inner url.path }

scheme_kind : (s : Scheme) → scheme_type (scheme_text s) ≡ SpecialNotFile
unfolding scheme_type default_port
scheme_kind Http = refl
scheme_kind Https = refl

special_kind : (url : Parts) (d : DsnParts) → IsDsn url d → kind_of url ≡ SpecialNotFile
special_kind url d is = ap scheme_type is.scheme ∙ scheme_kind d.scheme

printed_valid : (url : Parts) → IsValid url → kind_of url ≡ SpecialNotFile → IsValid (printed url)
printed_valid url valid kind =
    let special = ap is_special kind in
    let path = hierarchical url valid.path (base_from_authority url (special_has_authority url valid.head special)) in
    record {
      head = IsValidHead_same url (printed url) refl valid.head;
      path = inl (inner_valid (kind_of url) url.path path.0 (path.1 special), λ _. omega arith);
      query = tt;
      fragment = tt;
    }

-- ---- its parts

whole_path : (segments path project : List ℕ) → IsSplit segments path project → path ++ project ≡ 47 ∷ segments
whole_path segments path project (inl (is, one, root)) = ap (λ p. p ++ project) root ∙ ap (λ s. 47 ∷ s) (sym is)
whole_path segments path project (inr (front, is, one, root)) =
    ap (λ p. p ++ project) root ∙ ap (λ s. 47 ∷ s) (append_assoc front (47 ∷ []) project ∙ sym is)

some_segments : (segments path project : List ℕ) → IsSplit segments path project → project ≢ [] → 47 ∷ segments ≢ codes "/"
some_segments segments path project (inl (is, one, root)) some e = some (sym is ∙ cc)
some_segments segments path project (inr (front, is, one, root)) some e =
    let none : front ++ 47 ∷ project ≡ [] = sym is ∙ cc in
    let size = simp length-append at (ap length none) in
    omega (arith, size)

printed_parts : (url : Parts) (d : DsnParts) → IsDsn url d → IsDsn (printed url) d
printed_parts url d is = record {
  some_path = some_segments (inner url.path) d.path d.project is.split is.some_project;
  split = subst (λ t. IsSplit t d.path d.project) (sym (inner_again url.path)) is.split;
  some_project = is.some_project;
  some_key = is.some_key;
  key = is.key;
  scheme = is.scheme;
  host = is.host;
  secret = is.secret;
  port = is.port;
}

-- ---- its text

secret_is : (password : List ℕ) (secret : Option (List ℕ)) → secret ≡ cond (is_empty password) None (Some password) → unwrap_or secret [] ≡ password
secret_is [] secret e = ap (λ o. unwrap_or o []) e
secret_is (b ∷ password) secret e =
    ap (λ o. unwrap_or o []) (e ∙ cond-false _ _ _ (is_empty_nonempty (b ∷ password) (omega arith)))

host_cases : (o : Option (Host (List ℕ))) (host : List ℕ) (otherwise : Host (List ℕ)) → option_map host_text o ≡ Some host → host_text (unwrap_or o otherwise) ≡ host
host_cases None host otherwise e = absurd (cc)
host_cases (Some h) host otherwise e = ap (λ o. unwrap_or o host) e

host_is : (url : Parts) (host : List ℕ) → option_map host_text (nonempty_host url) ≡ Some host → host_text (host_or_empty url) ≡ host
host_is url host e =
    ⊎_elim
    (λ has. host_cases url.host host _ (ap (λ o. option_map host_text o) (sym (cond-true _ url.host None has)) ∙ e))
    (λ none. let never : None ≡ Some host = ap (λ o. option_map host_text o) (sym (cond-false _ url.host None none)) ∙ e in absurd (cc))
    (cases_Bool (has_host url))

-- how the kit's record writes the text of a DSN
joined : (scheme key secret host : List ℕ) (port : Option ℕ) (path : List ℕ) → scheme ++ (codes "://" ++ (key ++ (codes ":" ++ (secret ++ (codes "@" ++ (host ++ (port_text port ++ path))))))) ≡ scheme ++ 58 ∷ 47 ∷ 47 ∷ ((key ++ 58 ∷ (secret ++ 64 ∷ (host ++ (when (is_some port) (codes ":") ++ (unwrap_or (option_map decimal port) [] ++ []))))) ++ path)
joined scheme key secret host None path = simp (append_assoc, append-nil)
joined scheme key secret host (Some n) path = simp (append_assoc, append-nil)

text_is : (url : Parts) (d : DsnParts) → IsDsn url d → dsn_text d ≡ (printed url).scheme ++ 58 ∷ 47 ∷ 47 ∷ (keyed (printed url) ++ (printed url).path)
text_is url d is =
    ap (λ t. scheme_text d.scheme ++ (codes "://" ++ (d.key ++ (codes ":" ++ (unwrap_or d.secret [] ++ (codes "@" ++ (d.host ++ (port_text d.port ++ t))))))))
    (whole_path (inner url.path) d.path d.project is.split)
    ∙ joined (scheme_text d.scheme) d.key (unwrap_or d.secret []) d.host d.port (47 ∷ inner url.path)
    ∙ (λ i. sym is.scheme i ++ 58 ∷ 47 ∷ 47 ∷ ((is.key i ++ 58 ∷ (secret_is url.password d.secret is.secret i ++ 64 ∷ (sym (host_is url d.host is.host) i ++ (when (is_some (is.port i)) (codes ":") ++ (unwrap_or (option_map decimal (is.port i)) [] ++ []))))) ++ 47 ∷ inner url.path))

key_length : (key : List ℕ) → key ≢ [] → 0 < length key
key_length [] some = absurd (some refl)
key_length (b ∷ key) some = omega arith

-- the text of a DSN of a valid URL is that of a URL with the same parts
pub dsn_reads_back : (url : Parts) (d : DsnParts) → IsValid url → IsDsn url d → DsnReadsBack d
dsn_reads_back url d valid is =
    let kind = special_kind url d is in
    let parsed = parse_keyed (printed url) (printed_valid url valid kind) kind (key_length url.username is.some_key) in
    (printed url, subst (λ t. parse_url None t ≡ Ok (printed url)) (sym (text_is url d is)) parsed, printed_parts url d is)

-- and so is that of a DSN that is given
pub given_reads_back : {E : Type 0} (url : Parts) (r : Result Dsn E) (Q : E → Type 0) → IsValid url → MatchResult r (λ d. IsDsn url (dsn_parts d)) Q → IfOk r (λ d. DsnReadsBack (dsn_parts d))
given_reads_back url (Ok d) Q valid is = dsn_reads_back url (dsn_parts d) valid is
given_reads_back url (Err e) Q valid is = tt

-- ---- its bytes

abbrev is_ascii_byte : ℕ → Bool
is_ascii_byte b = ltb b 128

ascii_bytes : (text : List ℕ) → All (Passes is_ascii_byte) text → IsAscii text
ascii_bytes text all = IsAscii-from_all text (All-weaker (Passes is_ascii_byte) (λ b. b < 128) (λ b passes. grind (arith, nat_tests)) text all)

IsAscii-port : (scheme : List ℕ) (port : Option ℕ) → IsPortOf scheme port → IsAscii (port_text port)
IsAscii-port scheme None valid = IsAscii-nil
IsAscii-port scheme (Some n) valid = IsAscii-cons 58 (decimal n) (lit< tt) (IsAscii-decimal n (omega (arith, valid.0)))

IsAscii-host : (url : Parts) (d : DsnParts) → IsValid url → IsDsn url d → IsAscii d.host
IsAscii-host url d valid is =
    let has = special_has_authority url valid.head (ap is_special (special_kind url d is)) in
    subst IsAscii (host_is url d.host is.host) (IsAscii-host_text (kind_of url) (host_or_empty url) (own_host url valid.head has))

IsAscii-path : (url : Parts) (d : DsnParts) → IsValid url → IsDsn url d → IsAscii (d.path ++ d.project)
IsAscii-path url d valid is =
    let kind = special_kind url d is in
    let whole = printed_valid url valid kind in
    let path = hierarchical (printed url) whole.path (base_from_authority (printed url) (special_has_authority (printed url) whole.head (ap is_special kind))) in
    subst IsAscii (sym (whole_path (inner url.path) d.path d.project is.split))
    (ascii_bytes (47 ∷ inner url.path) (All_kept is_ascii_byte PATH refl (47 ∷ inner url.path) (segment_list_kept (kind_of url) (47 ∷ inner url.path) path.0)))

joined_ascii : (scheme key secret host port path : List ℕ) → IsAscii scheme → IsAscii key → IsAscii secret → IsAscii host → IsAscii port → IsAscii path → IsAscii (scheme ++ (codes "://" ++ (key ++ (codes ":" ++ (secret ++ (codes "@" ++ (host ++ (port ++ path))))))))
joined_ascii scheme key secret host port path is_scheme is_key is_secret is_host is_port is_path =
    let place = host ++ (port ++ path) in
    let from_sign = 64 ∷ place in
    let from_colon = 58 ∷ (secret ++ from_sign) in
    let sign = IsAscii-cons 64 place (lit< tt) (IsAscii-append host (port ++ path) is_host (IsAscii-append port path is_port is_path)) in
    let colon = IsAscii-cons 58 (secret ++ from_sign) (lit< tt) (IsAscii-append secret from_sign is_secret sign) in
    let keys = IsAscii-append key from_colon is_key colon in
    let slashes = IsAscii-cons 47 (47 ∷ (key ++ from_colon)) (lit< tt) (IsAscii-cons 47 (key ++ from_colon) (lit< tt) keys) in
    IsAscii-append scheme (58 ∷ 47 ∷ 47 ∷ (key ++ from_colon)) is_scheme (IsAscii-cons 58 (47 ∷ 47 ∷ (key ++ from_colon)) (lit< tt) slashes)

-- the text of a DSN of a valid URL is ASCII
pub dsn_ascii : (url : Parts) (d : DsnParts) → IsValid url → IsDsn url d → IsAscii (dsn_text d)
dsn_ascii url d valid is =
    let scheme = subst IsAscii is.scheme (IsAscii-scheme url.scheme valid.head.scheme) in
    let key = subst IsAscii (sym is.key) (ascii_bytes url.username (All_kept is_ascii_byte USERINFO refl url.username valid.head.username)) in
    let secret = subst IsAscii (sym (secret_is url.password d.secret is.secret)) (ascii_bytes url.password (All_kept is_ascii_byte USERINFO refl url.password valid.head.password)) in
    let port = subst (λ o. IsAscii (port_text o)) (sym is.port) (IsAscii-port url.scheme url.port valid.head.port) in
    joined_ascii (scheme_text d.scheme) d.key (unwrap_or d.secret []) d.host (port_text d.port) (d.path ++ d.project) scheme key secret (IsAscii-host url d valid is) port (IsAscii-path url d valid is)

-- ---- the DSN of a text

url_of_text : (text : List ℕ) (d : DsnParts) → IsUtf8 text → IsDsnText text d → (url : Parts) × IsValid url × IsDsn url d
url_of_text text d utf8 (url, parsed, is) = (url, named_valid text url utf8 parsed, is)

pub named_ascii : (text : List ℕ) (d : DsnParts) → IsUtf8 text → IsDsnText text d → IsAscii (dsn_text d)
named_ascii text d utf8 named = let found = url_of_text text d utf8 named in dsn_ascii found.0 d found.1 found.2

pub named_reads_back : (text : List ℕ) (d : DsnParts) → IsUtf8 text → IsDsnText text d → DsnReadsBack d
named_reads_back text d utf8 named = let found = url_of_text text d utf8 named in dsn_reads_back found.0 d found.1 found.2
