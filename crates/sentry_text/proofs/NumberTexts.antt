-- What number texts are read as.
use Rattle.std.proofs.Common.{◌≡◌, ◌≢◌, ℕ, ◌^◌, ◌<◌, ◌≤◌, ◌&&◌, nat_lt, false, List, [], ◌∷◌, length, get_or, Some, None, refl, sym, ap, subst, ◌∙◌, ◌↔◌, arith}
use Rattle.std.specs.Bool.{Decides}
use Rattle.std.specs.Char.{digit_value}
use Rattle.std.specs.List.{list_all}
use Rattle.std.specs.Str.Parse.{AllDigits, IsNumeral, digits_value, without_leading_plus}
use Rattle.std.proofs.lemmas.Bool.{cond-true, cond-false, false_from_ne_true}
use Rattle.std.proofs.lemmas.Bool.Decides.{Decides-and, Decides-ltb}
use Rattle.std.proofs.lemmas.Option.{cond_some}
use Rattle.std.specs.Fmt.{digits}
use Rattle.std.proofs.lemmas.Fmt.{digits_is_IsNumeral}
use Rattle.std.proofs.lemmas.Str.Parse.{without_leading_plus_none}
use Rattle.sentry_text.specs.Number.{IsNumber, is_numeral, number_of}

digits_tell : (base : ℕ) (text : List ℕ) → Decides (list_all (λ c. nat_lt (digit_value c) base) text) (AllDigits base text)
digits_tell base [] = (λ _. tt, λ _. refl)
digits_tell base (c ∷ cs) = Decides-and _ _ (Decides-ltb (digit_value c) base) (digits_tell base cs)

pub numeral_tells : (base : ℕ) (text : List ℕ) → Decides (is_numeral base text) (IsNumeral base text)
numeral_tells base text = Decides-and _ _ (Decides-ltb 0 (length text)) (digits_tell base text)

fits_tells : (base : ℕ) (text : List ℕ) → Decides (is_numeral base text && nat_lt (digits_value base text) (2 ^ 64)) (IsNumeral base text × (digits_value base text < 2 ^ 64))
fits_tells base text = Decides-and _ _ (numeral_tells base text) (Decides-ltb (digits_value base text) (2 ^ 64))

abbrev pub Fits : ℕ → List ℕ → Type 0
Fits base digits = IsNumeral base digits × (digits_value base digits < 2 ^ 64)

-- what `parse` answers is the number of the text
pub numeral_read : (base : ℕ) (text : List ℕ) (n : ℕ) → Fits base (without_leading_plus text) × (n ≡ digits_value base (without_leading_plus text)) → Some n ≡ number_of base text
unfolding number_of
numeral_read base text n h = ap Some h.1 ∙ sym (cond-true _ _ _ ((fits_tells base (without_leading_plus text)).1 h.0))

pub not_numeral : (base : ℕ) (text : List ℕ) → ¬ (Fits base (without_leading_plus text)) → None ≡ number_of base text
unfolding number_of
not_numeral base text h = sym (cond-false _ _ _ (false_from_ne_true _ (λ t. h ((fits_tells base (without_leading_plus text)).0 t))))

-- the number of a text is what the text writes
pub number_of_iff : (base : ℕ) (text : List ℕ) (n : ℕ) → number_of base text ≡ Some n ↔ IsNumber base text n
unfolding number_of
number_of_iff base text n =
    let digits = without_leading_plus text in
    let tells = fits_tells base digits in (
      λ e.
          let parts = cond_some _ (digits_value base digits) n e in
          let fits = tells.0 parts.0 in
          record { digits = fits.0; value = sym parts.1; small = omega (arith, fits.1, parts.1) },
      λ h. cond-true _ _ _ (tells.1 (h.digits, omega (arith, h.value, h.small))) ∙ ap Some (sym h.value),
    )

-- digits begin with no plus
pub no_plus : (base : ℕ) (ds : List ℕ) → base ≤ 16 → IsNumeral base ds → get_or ds 0 0 ≢ 43
no_plus base [] low h e = absurd (omega (arith, h.0))
no_plus base (c ∷ cs) low h e =
    let small : digit_value 43 < base = subst (λ (k : ℕ). digit_value k < base) e h.1.0 in
    omega (arith, small)

-- a written number is read
pub written_number : (base n : ℕ) → 2 ≤ base → base ≤ 16 → n < base ^ 64 → n < 2 ^ 64 → number_of base (digits base false n) ≡ Some n
written_number base n low high fits small =
    let is = digits_is_IsNumeral base false low high n fits in
    let same = without_leading_plus_none (digits base false n) (no_plus base (digits base false n) high is.0) in
    (number_of_iff base (digits base false n) n).1 (record {
      digits = rw same is.0;
      value = rw same (sym is.1);
      small = small;
    })
