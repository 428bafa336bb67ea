-- Pairs tell an authentication, or are refused.
use Rattle.std.proofs.Common.{◌≡◌, ◌==◌, ◌⊎◌, ◌+◌, ◌*◌, ◌/◌, ◌%◌, ◌^◌, ℕ, suc, List, [], ◌∷◌, Option, Some, None, inl, inr, ⊎_elim, refl, sym, ap, subst, ◌∙◌, arith}
use Rattle.std.specs.Prelude.{unwrap_or}
use Rattle.std.specs.List.{AllByRecursion, Contains, last_or, before_first}
use Rattle.std.proofs.lemmas.Bool.{cases_lt}
use Rattle.sentry_tables.specs.Lawful.{last_second}
use Rattle.sentry_text.specs.Number.{number_of}
use Rattle.sentry_text.proofs.NumberTexts.{number_of_iff}
use Rattle.sentry_moments.specs.Decimal.{Worth, Billionths, BelowZero, IsDecimal, IsNoDecimal}
use Rattle.sentry_moments.proofs.DecimalTexts.{one_worth, is_decided}
use Rattle.sentry_keys.specs.Auth.{Pair, Time, Parts, values_at, last_at, timestamp_key, client_key, version_key, key_key, secret_key, HasVersion, HasNoVersion, VersionIs, TimestampIs, VersionsAreReadable, Tell, IsAuth, HasUnreadableVersion, HasNoKey}

-- ---- versions

abbrev number_text : List ℕ → List ℕ
number_text text = before_first (λ b. b == 46) text

version_read : (text : List ℕ) (o : Option ℕ) → number_of 10 (number_text text) ≡ o → HasVersion text ⊎ HasNoVersion text
version_read text None e =
    inr (λ n h. let same = sym e ∙ (number_of_iff 10 (number_text text) n).1 h.0 in absurd (cc))
version_read text (Some n) e =
    ⊎_elim
    (λ small. inl (n, ((number_of_iff 10 (number_text text) n).0 e, small)))
    (λ large. inr (λ m h. let same : n ≡ m = let both = sym e ∙ (number_of_iff 10 (number_text text) m).1 h.0 in cc in omega (arith, large, same, h.1)))
    (cases_lt n (2 ^ 16))

-- each text is a version, or one of them is none
all_read : (texts : List (List ℕ)) → AllByRecursion HasVersion texts ⊎ ((text : List ℕ) × Contains texts text × HasNoVersion text)
all_read [] = inl tt
all_read (text ∷ texts) =
    ⊎_elim
    (λ first. ⊎_elim (λ others. inl (first, others)) (λ some. inr (some.0, (suc some.1.0, omega (arith, some.1.1), some.1.2), some.2)) (all_read texts))
    (λ none. inr (text, (0, omega arith, refl), none))
    (version_read text (number_of 10 (number_text text)) refl)

-- the last of them tells the version, or else the one before
last_version : (texts : List (List ℕ)) (o : Option (List ℕ)) → (n : ℕ) × VersionIs o n → AllByRecursion HasVersion texts → (n : ℕ) × VersionIs (last_or o texts) n
last_version [] o before all = before
last_version (text ∷ texts) o before all = last_version texts (Some text) all.0 all.1

-- ---- moments

worth_of : Worth → ℕ
worth_of (Billionths n) = n
worth_of BelowZero = 0

some_time : (text : List ℕ) (n : ℕ) → IsDecimal text (Billionths n) → (time : Option Time) × TimestampIs (Some text) time
unfolding worth_of
some_time text n is =
    ⊎_elim
    (λ late. (
      None,
      λ time h.
          let same : time.0 * 10 ^ 9 + time.1 ≡ n = ap worth_of (one_worth text (Billionths (time.0 * 10 ^ 9 + time.1)) (Billionths n) h.1 is) in
          omega (arith, late, same, h.0.0, h.0.1),
    ))
    (λ early.
    let whole : n ≡ n / 10 ^ 9 * 10 ^ 9 + n % 10 ^ 9 = omega arith in
    (Some (n / 10 ^ 9, n % 10 ^ 9), ((omega (arith, early), omega arith), subst (λ k. IsDecimal text (Billionths k)) whole is)))
    (cases_lt last_second (n / 10 ^ 9))

time_read : (text : List ℕ) → ((w : Worth) × IsDecimal text w) ⊎ IsNoDecimal text → (time : Option Time) × TimestampIs (Some text) time
time_read text (inl (Billionths n, is)) = some_time text n is
time_read text (inl (BelowZero, is)) =
    (None, λ time h. let same = one_worth text (Billionths (time.0 * 10 ^ 9 + time.1)) BelowZero h.1 is in absurd (cc))
time_read text (inr none) = (None, λ time h. none (Billionths (time.0 * 10 ^ 9 + time.1)) h.1)

last_time : (o : Option (List ℕ)) → (time : Option Time) × TimestampIs o time
last_time None = (None, refl)
last_time (Some text) = time_read text (is_decided text)

-- ---- pairs

with_key : (pairs : List Pair) (key : List ℕ) → unwrap_or (last_at key_key pairs) [] ≡ key → VersionsAreReadable pairs → ((a : Parts) × IsAuth pairs a) ⊎ HasNoKey pairs
with_key pairs [] e all = inr (all, e)
with_key pairs (b ∷ key) e all =
    let time = last_time (last_at timestamp_key pairs) in
    let version = last_version (values_at version_key pairs) None (7, refl) all in
    let auth : Parts = record { timestamp = time.0; client = last_at client_key pairs; version = version.0; key = b ∷ key; secret = last_at secret_key pairs } in
    let told : Tell pairs auth = record { timestamp = time.1; client = refl; version = version.1; versions = all; key = sym e; secret = refl } in
    inl (auth, (told, omega arith))

pub some_auth : (pairs : List Pair) → ((a : Parts) × IsAuth pairs a) ⊎ (HasUnreadableVersion pairs ⊎ HasNoKey pairs)
some_auth pairs =
    ⊎_elim
    (λ all. ⊎_elim (λ told. inl told) (λ none. inr (inr none)) (with_key pairs (unwrap_or (last_at key_key pairs) []) refl all))
    (λ some. inr (inl some))
    (all_read (values_at version_key pairs))
