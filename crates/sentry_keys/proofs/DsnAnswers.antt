-- Each URL is that of one DSN, or is refused with one error.
use Rattle.std.proofs.Common.{◌≡◌, ◌≢◌, ◌⊎◌, inl, inr, ⊎_elim, ℕ, ◌||◌, Bool, true, false, cond, List, [], Option, Some, None, is_some, option_map, refl, sym, ap, subst, ◌∙◌}
use Rattle.std.specs.Prelude.{codes, bytes_eq, Ok, Err, if◌then◌else◌}
use Rattle.std.proofs.lemmas.Bool.{cond-true, cond-false, cases_Bool, true≢false, false_from_ne_true}
use Rattle.std.proofs.lemmas.Slice.Eq.{bytes_eq-Decides}
use Rattle.url.specs.declared.host.Host.{Host}
use Rattle.url.specs.Host.{host_text}
use Rattle.url.specs.Input.{is_empty}
use Rattle.url.specs.Parts.{Parts, nonempty_host}
use Rattle.url.specs.Parser.{Parsed, parse_url}
use Rattle.sentry_text.specs.declared.project_id.ParseProjectIdError.TheVariants as project
use Rattle.sentry_keys.specs.declared.scheme.Scheme.{Scheme}
use Rattle.sentry_keys.specs.declared.scheme.Scheme.TheVariants.{Http, Https}
use Rattle.sentry_keys.specs.declared.dsn_error.ParseDsnError.{ParseDsnError}
use Rattle.sentry_keys.specs.declared.dsn_error.ParseDsnError.TheVariants.{InvalidUrl, InvalidScheme, NoUsername, NoProjectId, InvalidProjectId, Memory}
use Rattle.sentry_keys.specs.DsnScheme.{scheme_text}
use Rattle.sentry_keys.specs.DsnPath.{IsSplit, inner}
use Rattle.sentry_keys.specs.Dsn.{DsnParts, IsDsn, IsDsnText, HasProject, Refuses, RefusesParsed, IsRefused}
use Rattle.sentry_keys.proofs.DsnSplits.{split_of, split_unique}

text_cases : (xs ys : List ℕ) → (xs ≡ ys) ⊎ (xs ≢ ys)
text_cases xs ys =
    let same = bytes_eq-Decides xs ys in
    ⊎_elim (λ t. inl (same.0 t)) (λ f. inr (λ e. true≢false (sym (same.1 e) ∙ f))) (cases_Bool (bytes_eq xs ys))

same_text : (xs ys : List ℕ) → xs ≡ ys → bytes_eq xs ys ≡ true
same_text xs ys = (bytes_eq-Decides xs ys).1

other_text : (xs ys : List ℕ) → xs ≢ ys → bytes_eq xs ys ≡ false
other_text xs ys other = false_from_ne_true _ (λ t. other ((bytes_eq-Decides xs ys).0 t))

-- ---- the first check that fails, as a function

project_of : Parts → List ℕ
project_of url = (split_of (inner url.path)).1

project_is : (url : Parts) (path project : List ℕ) → IsSplit (inner url.path) path project → project_of url ≡ project
unfolding project_of
project_is url path project split =
    let some = split_of (inner url.path) in
    (split_unique (inner url.path) some.0 some.1 path project some.2 split).1

abbrev is_scheme : List ℕ → Bool
is_scheme word = bytes_eq word (codes "http") || bytes_eq word (codes "https")

scheme_known : (s : Scheme) (word : List ℕ) → word ≡ scheme_text s → is_scheme word ≡ true
scheme_known Http word e = ap is_scheme e
scheme_known Https word e = ap is_scheme e

scheme_cases : (word : List ℕ) → ((s : Scheme) × (word ≡ scheme_text s)) ⊎ ((s : Scheme) → word ≢ scheme_text s)
scheme_cases word =
    ⊎_elim (λ e. inl (Http, e))
    (λ no_http. ⊎_elim (λ e. inl (Https, e)) (λ no_https. inr (neither word no_http no_https)) (text_cases word (codes "https")))
    (text_cases word (codes "http"))
  where
    neither : (word : List ℕ) → word ≢ codes "http" → word ≢ codes "https" → (s : Scheme) → word ≢ scheme_text s
    neither word a b Http = a
    neither word a b Https = b

scheme_unknown : (word : List ℕ) → ((s : Scheme) × (word ≡ scheme_text s) → ⊥) → is_scheme word ≡ false
scheme_unknown word none = rw (other_text word (codes "http") (λ e. none (Http, e)), other_text word (codes "https") (λ e. none (Https, e))) refl

abbrev failing : Parts → Option ParseDsnError
failing url =
    cond (bytes_eq url.path (codes "/")) (Some NoProjectId)
    (cond (bytes_eq (project_of url) []) (Some (InvalidProjectId project.EmptyValue))
    (cond (bytes_eq url.username []) (Some NoUsername)
    (cond (is_scheme url.scheme)
    (cond (is_some (nonempty_host url)) None (Some InvalidUrl))
    (Some InvalidScheme))))

-- ---- what each check says of that function

after_project : (url : Parts) (o : Option ParseDsnError) → HasProject url → cond (bytes_eq url.username []) (Some NoUsername) (cond (is_scheme url.scheme) (cond (is_some (nonempty_host url)) None (Some InvalidUrl)) (Some InvalidScheme)) ≡ o → failing url ≡ o
after_project url o h e =
    cond-false _ _ _ (other_text url.path (codes "/") h.some_path)
    ∙ cond-false _ _ _ (other_text (project_of url) [] (λ none. h.some_project (sym (project_is url h.path h.project h.split) ∙ none))) ∙ e

mapped : {A B : Type 0} (f : A → B) (o : Option A) (b : B) → option_map f o ≡ Some b → is_some o ≡ true
mapped f None b e = absurd (cc)
mapped f (Some a) b e = refl

failing_refused : (url : Parts) (e : ParseDsnError) → Refuses url e → failing url ≡ Some e
failing_refused url NoProjectId h = cond-true _ _ _ (same_text url.path (codes "/") h)
failing_refused url (InvalidProjectId project.EmptyValue) h =
    cond-false _ _ _ (other_text url.path (codes "/") h.some_path)
    ∙ cond-true _ _ _ (same_text (project_of url) [] (project_is url h.path [] h.split))
failing_refused url (InvalidProjectId project.Memory) h = absurd h
failing_refused url NoUsername h = after_project url (Some NoUsername) h.0 (cond-true _ _ _ (same_text url.username [] h.1))
failing_refused url InvalidScheme h =
    after_project url (Some InvalidScheme) h.0 (cond-false _ _ _ (other_text url.username [] h.1) ∙ cond-false _ _ _ (scheme_unknown url.scheme h.2))
failing_refused url InvalidUrl h =
    after_project url (Some InvalidUrl) h.0
    (cond-false _ _ _ (other_text url.username [] h.1) ∙ cond-true _ _ _ (scheme_known h.2.0 url.scheme h.2.1) ∙ cond-false _ _ _ (ap is_some h.3))
failing_refused url Memory h = absurd h

dsn_project : (url : Parts) (d : DsnParts) → IsDsn url d → HasProject url
dsn_project url d h = record { some_path = h.some_path; path = d.path; project = d.project; split = h.split; some_project = h.some_project }

failing_dsn : (url : Parts) (d : DsnParts) → IsDsn url d → failing url ≡ None
failing_dsn url d h =
    after_project url None (dsn_project url d h)
    (cond-false _ _ _ (other_text url.username [] h.some_key) ∙ cond-true _ _ _ (scheme_known d.scheme url.scheme h.scheme)
    ∙ cond-true _ _ _ (mapped host_text (nonempty_host url) d.host h.host))

-- ---- at most one answer

pub one_refusal : (url : Parts) (e f : ParseDsnError) → Refuses url e → Refuses url f → e ≡ f
one_refusal url e f g h = let same = sym (failing_refused url e g) ∙ failing_refused url f h in cc

pub not_both : (url : Parts) (d : DsnParts) (e : ParseDsnError) → IsDsn url d → Refuses url e → ⊥
not_both url d e g h = let same = sym (failing_dsn url d g) ∙ failing_refused url e h in cc

pub same_scheme : (s t : Scheme) → scheme_text s ≡ scheme_text t → s ≡ t
same_scheme Http Http e = refl
same_scheme Http Https e = absurd (cc)
same_scheme Https Http e = absurd (cc)
same_scheme Https Https e = refl

pub one_dsn : (url : Parts) (d e : DsnParts) → IsDsn url d → IsDsn url e → d ≡ e
one_dsn url d e g h =
    let split = split_unique (inner url.path) d.path d.project e.path e.project g.split h.split in
    let scheme = same_scheme d.scheme e.scheme (sym g.scheme ∙ h.scheme) in
    let key : d.key ≡ e.key = g.key ∙ sym h.key in
    let secret : d.secret ≡ e.secret = g.secret ∙ sym h.secret in
    let hosts : Some d.host ≡ Some e.host = sym g.host ∙ h.host in
    let host : d.host ≡ e.host = cc in
    let port : d.port ≡ e.port = g.port ∙ sym h.port in
    λ i. record { scheme = scheme i; key = key i; secret = secret i; host = host i; port = port i; path = split.0 i; project = split.1 i }

-- ---- some answer

abbrev pub Answer : Parts → Type 0
Answer url = ((d : DsnParts) × IsDsn url d) ⊎ ((e : ParseDsnError) × Refuses url e)

with_host : (url : Parts) (has : HasProject url) → url.username ≢ [] → (s : Scheme) → url.scheme ≡ scheme_text s → (o : Option (Host (List ℕ))) → nonempty_host url ≡ o → Answer url
with_host url has some_key s scheme None none = inr (InvalidUrl, (has, some_key, (s, scheme), none))
with_host url has some_key s scheme (Some host) is =
    inl (
      record {
        scheme = s;
        key = url.username;
        secret = if is_empty url.password then None else Some url.password;
        host = host_text host;
        port = url.port;
        path = has.path;
        project = has.project;
      },
      record {
        some_path = has.some_path;
        split = has.split;
        some_project = has.some_project;
        some_key = some_key;
        key = refl;
        scheme = scheme;
        host = ap (option_map host_text) is;
        secret = refl;
        port = refl;
      },
    )

with_project : (url : Parts) → HasProject url → Answer url
with_project url has =
    ⊎_elim (λ e. inr (NoUsername, (has, e)))
    (λ some_key. ⊎_elim (λ s. with_host url has some_key s.0 s.1 (nonempty_host url) refl) (λ none. inr (InvalidScheme, (has, some_key, λ s. none s.0 s.1))) (scheme_cases url.scheme))
    (text_cases url.username [])

pub some_answer : (url : Parts) → Answer url
some_answer url =
    let split = split_of (inner url.path) in
    ⊎_elim (λ e. inr (NoProjectId, e))
    (λ some_path.
    ⊎_elim
    (λ e. inr (InvalidProjectId project.EmptyValue, record { some_path = some_path; path = split.0; split = subst (λ p. IsSplit (inner url.path) split.0 p) e split.2 }))
    (λ some_project. with_project url (record { some_path = some_path; path = split.0; project = split.1; split = split.2; some_project = some_project }))
    (text_cases split.1 []))
    (text_cases url.path (codes "/"))

-- ---- of texts

same_url : (p : Parsed Parts) (u v : Parts) → p ≡ Ok u → p ≡ Ok v → u ≡ v
same_url p u v a b = let same = sym a ∙ b in cc

pub one_dsn_text : (text : List ℕ) (d e : DsnParts) → IsDsnText text d → IsDsnText text e → d ≡ e
one_dsn_text text d e g h = one_dsn g.0 d e g.2 (subst (λ u. IsDsn u e) (same_url (parse_url None text) h.0 g.0 h.1 g.1) h.2)

one_parsed_refusal : (p : Parsed Parts) (e f : ParseDsnError) → RefusesParsed p e → RefusesParsed p f → e ≡ f
one_parsed_refusal (Ok url) e f g h = one_refusal url e f g h
one_parsed_refusal (Err x) e f g h = g ∙ sym h

pub one_text_refusal : (text : List ℕ) (e f : ParseDsnError) → IsRefused text e → IsRefused text f → e ≡ f
one_text_refusal text = one_parsed_refusal (parse_url None text)

pub not_both_text : (text : List ℕ) (d : DsnParts) (e : ParseDsnError) → IsDsnText text d → IsRefused text e → ⊥
not_both_text text d e g h = not_both g.0 d e g.2 (subst (λ p. RefusesParsed p e) g.1 h)

abbrev ParsedAnswer : Parsed Parts → Type 0
ParsedAnswer p = ((d : DsnParts) × ((url : Parts) × (p ≡ Ok url) × IsDsn url d)) ⊎ ((e : ParseDsnError) × RefusesParsed p e)

parsed_answer : (p : Parsed Parts) → ParsedAnswer p
parsed_answer (Ok url) = ⊎_elim (λ d. inl (d.0, (url, refl, d.1))) (λ e. inr e) (some_answer url)
parsed_answer (Err x) = inr (InvalidUrl, refl)

pub some_text_answer : (text : List ℕ) → ParsedAnswer (parse_url None text)
some_text_answer text = parsed_answer (parse_url None text)
