-- Sampling values are lawful texts.
use Rattle.std.proofs.Common.{◌≡◌, ◌⊎◌, ◌<◌, ◌^◌, ◌*◌, ◌/◌, ◌%◌, ℕ, pos, List, ◌∷◌, Err, inl, inr, refl, sym, ap, ◌∙◌, arith, IsUtf8, ltb, lt-ltb}
use Rattle.std.proofs.lemmas.Bool.{cases_lt}
use Rattle.sentry_tables.specs.Basic.{IsBelow}
use Rattle.sentry_tables.specs.Cell.{Cell, whole}
use Rattle.sentry_tables.specs.Lawful.{ScalarLaws, RefusesNull}
use Rattle.sentry_tables.specs.Spelling.{SpellingLaws, spelled}
use Rattle.sentry_tables.proofs.Spellings.{spelled_laws, spelled_refuses_null}
use Rattle.sentry_moments.specs.Decimal.{IsDecimal, IsNoDecimal, IsOutside, Worth, Billionths, BelowZero, decimal_text}
use Rattle.sentry_moments.specs.Digits.{digits}
use Rattle.sentry_moments.specs.SampleRand.{millionths, nearest_thousand}
use Rattle.sentry_moments.specs.SamplingTexts.{IsWorthBelow, billionths_in, sample_rand_spelling, sample_rand_kind, sample_rate_spelling, sample_rate_kind}
use Rattle.sentry_moments.specs.SampleRandReading.{ReadsSampleRand}
use Rattle.sentry_moments.specs.SampleRate.{ReadsSampleRate}
use Rattle.sentry_moments.specs.declared.decimal.DecimalError.{DecimalError}
use Rattle.sentry_moments.specs.declared.decimal.DecimalError.TheVariants.{InvalidText, OutOfRange as DecimalOutOfRange}
use Rattle.sentry_moments.specs.declared.sample_rand.InvalidSampleRandError.{InvalidSampleRandError}
use Rattle.sentry_moments.specs.declared.sample_rand.InvalidSampleRandError.TheVariants.{InvalidFloat, OutOfRange}
use Rattle.sentry_moments.proofs.AsciiTexts.{decimal_text-utf8, sample_rand_text-utf8}
use Rattle.sentry_moments.proofs.Choices.{if_true}
use Rattle.sentry_moments.proofs.DecimalReadBack.{rate_reads_back, sample_rand_reads}
use Rattle.sentry_moments.proofs.DecimalTexts.{one_worth, same_number, is_decided}

-- a text that is worth so many billionths is worth no others
pub one_number : (text : List ℕ) (m n : ℕ) → IsDecimal text (Billionths m) → IsDecimal text (Billionths n) → m ≡ n
one_number text m n a b = same_number m n (one_worth text (Billionths m) (Billionths n) a b)

pub not_below_zero : (text : List ℕ) (n : ℕ) → IsDecimal text BelowZero → IsDecimal text (Billionths n) → ⊥
not_below_zero text n a b = let e = one_worth text BelowZero (Billionths n) a b in cc

module _ (limit : ℕ) where
  -- what is stored is a number below the limit
  below : (P : Cell → Type 0) → ((n : ℕ) → n < limit → P (whole (pos n))) → (c : Cell) → IsBelow limit c → P c
  below P f (whole (pos n)) h = f n h
  below P f _ h = absurd h

  -- and so is what a text is worth
  worth_below : (P : Cell → Type 0) → (text : List ℕ) (c : Cell) → ((n : ℕ) → IsDecimal text (Billionths n) → n < limit → P (whole (pos n))) → IsWorthBelow limit text c → P c
  worth_below P text (whole (pos n)) f h = f n h.0 h.1
  worth_below P text _ f h = absurd h

  worth_stored : (text : List ℕ) (c : Cell) → IsWorthBelow limit text c → IsBelow limit c
  worth_stored text c = worth_below (IsBelow limit) text c (λ n d h. h)

  -- a text is worth one number at most
  worth_one : (text : List ℕ) (c x : Cell) → IsWorthBelow limit text c → IsWorthBelow limit text x → c ≡ x
  worth_one text c x h k = worth_below (λ y. y ≡ x) text c (λ m d a. worth_below (λ y. whole (pos m) ≡ y) text x (λ n e b. ap (λ j. whole (pos j)) (one_number text m n d e)) k) h

  worth_decided : (text : List ℕ) → ((w : Worth) × IsDecimal text w) ⊎ IsNoDecimal text → ((c : Cell) × IsWorthBelow limit text c) ⊎ ((c : Cell) → IsWorthBelow limit text c → ⊥)
  worth_decided text (inl (Billionths n, d)) =
      elim (cases_lt n limit) [
        | inl lt ↦ inl (whole (pos n), (d, lt))
        | inr le ↦ inr (λ c. worth_below (λ x. ⊥) text c (λ m e h. let same = one_number text m n e d in omega arith))
      ]
  worth_decided text (inl (BelowZero, d)) = inr (λ c. worth_below (λ x. ⊥) text c (λ n e h. not_below_zero text n d e))
  worth_decided text (inr none) = inr (λ c. worth_below (λ x. ⊥) text c (λ n e h. none (Billionths n) e))

  outside : (text : List ℕ) (c : Cell) → IsOutside limit text → IsWorthBelow limit text c → ⊥
  outside text c (inl d) = worth_below (λ x. ⊥) text c (λ n e h. not_below_zero text n d e)
  outside text c (inr (v, d, large)) = worth_below (λ x. ⊥) text c (λ n e h. let same = one_number text n v e d in omega arith)

  no_decimal : (text : List ℕ) (c : Cell) → IsNoDecimal text → IsWorthBelow limit text c → ⊥
  no_decimal text c none = worth_below (λ x. ⊥) text c (λ n e h. none (Billionths n) e)

-- ---- random values

printed_small : (n : ℕ) → 1000 * millionths n < 10 ^ 9
printed_small n = omega arith

thousands : (m : ℕ) → nearest_thousand (1000 * m) ≡ m
thousands m =
    let whole : 1000 * m / 1000 ≡ m = omega arith in
    if_true (ltb (1000 * m % 1000) 500) (1000 * m / 1000) _ (lt-ltb (1000 * m % 1000) 500 (omega arith)) ∙ whole

printed_again : (n : ℕ) → millionths (1000 * millionths n) ≡ millionths n
printed_again n = let same = thousands (millionths n) in omega arith

pub sample_rand_laws : SpellingLaws sample_rand_spelling
sample_rand_laws = record {
  back = λ c p q. (sample_rand_reads (billionths_in c), printed_small (billionths_in c));
  one = worth_one (10 ^ 9);
  again = λ c p. ap (λ k. whole (pos (1000 * k))) (printed_again (billionths_in c));
  stored_norm = λ c p. printed_small (billionths_in c);
  readable_norm = λ c p q. tt;
  utf8 = λ c p. sample_rand_text-utf8 (billionths_in c);
  spelled_stored = λ text c utf8 h. worth_stored (10 ^ 9) text c h;
  spelled_readable = λ text c utf8 h. tt;
  spelled_written = λ text c utf8 h. ap (λ m. 48 ∷ 46 ∷ digits 6 m) (sym (printed_again (billionths_in c)));
  decide = λ text. worth_decided (10 ^ 9) text (is_decided text);
}

pub sample_rand_scalar_laws : ScalarLaws (spelled sample_rand_spelling)
sample_rand_scalar_laws = spelled_laws sample_rand_spelling sample_rand_laws

pub sample_rand_refuses_null : RefusesNull sample_rand_kind
sample_rand_refuses_null = spelled_refuses_null sample_rand_spelling

pub not_sample_rand : (text : List ℕ) (e : InvalidSampleRandError) → ReadsSampleRand text (Err e) → (c : Cell) → IsWorthBelow (10 ^ 9) text c → ⊥
not_sample_rand text InvalidFloat h c = no_decimal (10 ^ 9) text c h
not_sample_rand text OutOfRange h c = outside (10 ^ 9) text c h

-- ---- rates

abbrev rate_text : Cell → List ℕ
rate_text c = decimal_text (billionths_in c / 10 ^ 9) (billionths_in c % 10 ^ 9)

pub sample_rate_laws : SpellingLaws sample_rate_spelling
sample_rate_laws = record {
  back = λ c p q. below (2 ^ 64) (λ x. IsWorthBelow (2 ^ 64) (rate_text x) x) (λ n h. (rate_reads_back n h, h)) c p;
  one = worth_one (2 ^ 64);
  again = λ c p. refl;
  stored_norm = λ c p. p;
  readable_norm = λ c p q. tt;
  utf8 = λ c p. below (2 ^ 64) (λ x. IsUtf8 (rate_text x)) (λ n h. decimal_text-utf8 (n / 10 ^ 9) (n % 10 ^ 9) (omega (arith, h))) c p;
  spelled_stored = λ text c utf8 h. worth_stored (2 ^ 64) text c h;
  spelled_readable = λ text c utf8 h. tt;
  spelled_written = λ text c utf8 h. refl;
  decide = λ text. worth_decided (2 ^ 64) text (is_decided text);
}

pub sample_rate_scalar_laws : ScalarLaws (spelled sample_rate_spelling)
sample_rate_scalar_laws = spelled_laws sample_rate_spelling sample_rate_laws

pub sample_rate_refuses_null : RefusesNull sample_rate_kind
sample_rate_refuses_null = spelled_refuses_null sample_rate_spelling

pub not_sample_rate : (text : List ℕ) (e : DecimalError) → ReadsSampleRate text (Err e) → (c : Cell) → IsWorthBelow (2 ^ 64) text c → ⊥
not_sample_rate text InvalidText h c = no_decimal (2 ^ 64) text c h
not_sample_rate text DecimalOutOfRange h c = outside (2 ^ 64) text c h
