-- Labels of hosts, and the numbers in them.
use Rattle.std.proofs.Common.{◌≡◌, ◌≢◌, ◌↔◌, ◌==◌, ℕ, ◌<◌, suc, Bool, false, List, [], ◌∷◌, length, get_or, Option, Some, None, option_map, sym, ap, ◌∙◌, arith}
use Rattle.std.specs.Prelude.{codes, MatchOption, bytes_eq, IsTrue}
use Rattle.std.specs.Borrow.{Bor}
use Rattle.std.specs.List.{All, join_with_byte, after_first}
use Rattle.std.specs.Str.Parse.{digits_value}
use Rattle.std.proofs.lemmas.Bool.{ne_eqb}
use Rattle.std.proofs.lemmas.List.Elements.{All-nil, All-cons}
use Rattle.std.proofs.lemmas.List.Splits.{slice_split_none, slice_split_first, join_with_byte-slice_split}
use Rattle.std.proofs.lemmas.Slice.Eq.{bytes_eq-Decides}
use Rattle.std.proofs.lemmas.Str.Parse.{without_leading_plus_none}
use Rattle.std.proofs.lemmas.Str.Pattern.{IsSplitOnceResult, split_parts, split_once_first}
use Rattle.sentry_text.specs.declared.project_id.OrganizationId.{OrganizationId}
use Rattle.sentry_text.specs.Number.{number_of}
use Rattle.sentry_text.specs.ProjectId.{organization_value}
use Rattle.sentry_text.proofs.NumberTexts.{number_of_iff, no_plus}
use Rattle.sentry_keys.specs.DsnOrganization.{labels, sentry, IsIngestHost, IsDigits, NamesOrganization}

others : (text : List ℕ) → ((i : ℕ) → i < length text → get_or text i 0 ≢ 46) → All (λ b. (b == 46) ≡ false) text
others [] h = All-nil (λ b. (b == 46) ≡ false)
others (c ∷ cs) h = All-cons (λ b. (b == 46) ≡ false) c cs (ne_eqb c 46 (h 0 (omega arith))) (others cs (λ i lt. h (suc i) (omega arith)))

-- what `split_once` says at a dot
pub first_label_parts : (text : List ℕ) (r : Option (Bor (List ℕ) × Bor (List ℕ))) → IsSplitOnceResult 46 text r → MatchOption r (labels text ≡ text ∷ []) (λ x. labels text ≡ x.0.now ∷ labels x.1.now)
first_label_parts text None h = slice_split_none _ text (others text (split_parts 46 text None h (omega arith)))
first_label_parts text (Some (a, b)) h =
    let f = split_once_first 46 text (Some (a, b)) h (omega arith) in
    slice_split_first (λ x. x == 46) text 0 f.0 ∙ ap (λ l. l ∷ labels (after_first (λ x. x == 46) text)) (sym f.1) ∙ ap (λ t. a.now ∷ labels t) (sym f.2)

-- `sentry.io` has these labels, and no other text has
pub sentry_text : (host : List ℕ) → (labels host ≡ sentry) ↔ (host ≡ codes "sentry.io")
sentry_text host = (λ e. sym (join_with_byte-slice_split 46 host) ∙ ap (join_with_byte 46) e, λ e. ap labels e)

pub sentry_told : (host : List ℕ) (b : Bool) → b ≡ bytes_eq host (codes "sentry.io") → (IsTrue b → labels host ≡ sentry) × (labels host ≡ sentry → IsTrue b)
sentry_told host b is =
    let same = bytes_eq-Decides host (codes "sentry.io") in
    let text = sentry_text host in
    (λ t. text.1 (same.0 (sym is ∙ t)), λ e. is ∙ same.1 (text.0 e))

-- digits alone are a number
digits_number : (text : List ℕ) (n : ℕ) → IsDigits text n → number_of 10 text ≡ Some n
digits_number text n h =
    let same = without_leading_plus_none text (no_plus 10 text (omega arith) h.0) in
    (number_of_iff 10 text n).1 (record { digits = rw same h.0; value = rw same h.1; small = h.2 })

number_digits : (text : List ℕ) (n : ℕ) → get_or text 0 0 ≢ 43 → number_of 10 text ≡ Some n → IsDigits text n
number_digits text n unsigned e =
    let same = without_leading_plus_none text unsigned in
    let is = (number_of_iff 10 text n).0 e in
    (rw same at is.digits, rw same at is.value, is.small)

pub numbered_parts : (text : List ℕ) (r : Option OrganizationId) → get_or text 0 0 ≢ 43 → option_map organization_value r ≡ number_of 10 text → MatchOption r ((n : ℕ) → IsDigits text n → ⊥) (λ id. IsDigits text (organization_value id))
numbered_parts text None unsigned e = λ n h. let same = e ∙ digits_number text n h in cc
numbered_parts text (Some id) unsigned e = number_digits text (organization_value id) unsigned (sym e)

-- the first label of a host that takes events begins with `o`
pub no_number : (host first : List ℕ) (rest : List (List ℕ)) → labels host ≡ first ∷ rest → ((n : List ℕ) → first ≢ 111 ∷ n) → (n : List ℕ) → IsIngestHost (labels host) n → ⊥
no_number host first rest is other n h =
    let same : first ∷ rest ≡ (111 ∷ n) ∷ codes "ingest" ∷ h.0 = sym is ∙ h.1 in
    other n (cc)

-- a host names one organization
one_label : (host : List (List ℕ)) (m n : List ℕ) → IsIngestHost host m → IsIngestHost host n → m ≡ n
one_label host m n g h =
    let same : (111 ∷ m) ∷ codes "ingest" ∷ g.0 ≡ (111 ∷ n) ∷ codes "ingest" ∷ h.0 = sym g.1 ∙ h.1 in
    cc

pub one_organization : (host : List ℕ) (m n : ℕ) → NamesOrganization host m → NamesOrganization host n → m ≡ n
one_organization host m n g h =
    let same = one_label (labels host) g.0 h.0 g.1 h.1 in
    g.2.1 ∙ ap (digits_value 10) same ∙ sym h.2.1
