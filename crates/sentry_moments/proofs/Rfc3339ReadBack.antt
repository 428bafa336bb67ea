-- The written text of a moment names that moment.
use Rattle.std.proofs.Common.{◌≡◌, ℕ, ◌+◌, ◌-◌, ◌*◌, ◌/◌, ◌%◌, ◌^◌, ◌<◌, Bool, true, false, cond, eqb, List, [], ◌∷◌, ◌++◌, take, replicate, refl, sym, ap, ◌∙◌, append_assoc, arith, inl, ℤ, pos, ◌-ℤ◌, ◌+ℤ◌, ◌*ℤ◌}
use Rattle.std.specs.Str.Parse.{digits_value}
use Rattle.std.proofs.lemmas.Bool.{eqb-true}
use Rattle.std.proofs.lemmas.Bool.Decides.{nat_tests}
use Rattle.std.proofs.lemmas.List.{replicate-append-replicate, take_at}
use Rattle.jiff_core.specs.Calendar.{days_from_civil}
use Rattle.jiff_core.proofs.SignedLemmas.{signed_arith}
use Rattle.sentry_moments.specs.Digits.{digits, digits_without_closing_zeros, fraction_text}
use Rattle.sentry_moments.specs.Rfc3339.{IsMomentTime, IsRfc3339, IsFraction, Absent, Present, Upper, nanoseconds, date_text, clock_text}
use Rattle.sentry_moments.specs.MomentTexts.{day_after, civil_at, rfc3339_text}
use Rattle.sentry_moments.proofs.Places.{IsCut, is_cut, value_of_digits, length-digits}
use Rattle.sentry_moments.proofs.Calendar.{day_after-is, year_below}

-- the places are those of the number
nanoseconds_of : (n : ℕ) (xs : List ℕ) → n < 10 ^ 9 → IsCut 9 n xs → n ≡ nanoseconds xs
nanoseconds_of n xs h c =
    let sum : 9 ≡ c.zeros + (9 - c.zeros) = omega (arith, c.count) in
    let split : replicate 9 48 ≡ replicate c.zeros 48 ++ replicate (9 - c.zeros) 48 = ap (λ (k : ℕ). replicate k 48) sum ∙ sym (replicate-append-replicate c.zeros (9 - c.zeros) 48) in
    let whole : xs ++ replicate 9 48 ≡ digits 9 n ++ replicate (9 - c.zeros) 48 = ap (λ (t : List ℕ). xs ++ t) split ∙ sym (append_assoc xs (replicate c.zeros 48) (replicate (9 - c.zeros) 48)) ∙ ap (λ (t : List ℕ). t ++ replicate (9 - c.zeros) 48) (sym c.whole) in
    sym (ap (λ (t : List ℕ). digits_value 10 (take 9 t)) whole ∙ ap (digits_value 10) (take_at (digits 9 n) (replicate (9 - c.zeros) 48) 9 (length-digits 9 n)) ∙ value_of_digits 9 n h)

pub fraction_is : (n : ℕ) (xs : List ℕ) → 0 < n → n < 10 ^ 9 → IsCut 9 n xs → IsFraction (46 ∷ xs) xs
fraction_is n [] some h c = absurd (let e = nanoseconds_of n [] h c in omega (arith, e))
fraction_is n (x ∷ xs) some h c = Present x xs c.digits_are

-- ---- the whole text

-- the fraction as it is written, and what it is worth
pub record IsWritten (nanos : ℕ) (text : List ℕ) : Type 0 where
  pub places : List ℕ
  pub is_fraction : IsFraction text places
  pub worth : nanos ≡ nanoseconds places

written : (nanos : ℕ) (b : Bool) → eqb nanos 0 ≡ b → nanos < 10 ^ 9 → IsWritten nanos (cond b [] (46 ∷ digits_without_closing_zeros 9 nanos))
written nanos true e h = record { places = []; is_fraction = Absent; worth = eqb-true nanos 0 e }
written nanos false e h =
    let xs = digits_without_closing_zeros 9 nanos in
    record { places = xs; is_fraction = fraction_is nanos xs (not_none nanos e) h (is_cut 9 nanos); worth = nanoseconds_of nanos xs h (is_cut 9 nanos) }
  where
    not_none : (n : ℕ) → eqb n 0 ≡ false → 0 < n
    not_none n e = grind (arith, nat_tests)

regroup : (d c f z : List ℕ) (s : ℕ) → d ++ (s ∷ (c ++ (f ++ z))) ≡ d ++ s ∷ c ++ f ++ z
regroup d c f z s = sym (append_assoc (d ++ s ∷ c) f z ∙ append_assoc d (s ∷ c) (f ++ z))

same_seconds : (days : ℤ) (secs : ℕ) → days ≡ pos (secs / 86_400) → pos secs ≡ days *ℤ pos 86_400 +ℤ pos (secs % 86_400 / 3_600 * 3_600 + secs % 3_600 / 60 * 60 + secs % 60) -ℤ pos 0
same_seconds days secs e = omega (arith, signed_arith)

pub reads_back : (secs nanos : ℕ) → IsMomentTime secs nanos → IsRfc3339 (rfc3339_text secs nanos) secs nanos
reads_back secs nanos (h, k) =
    let n = secs / 86_400 in
    let is = day_after-is n in
    let below = year_below (day_after n) n is (omega arith) in
    let part = written nanos (eqb nanos 0) refl k in
    record {
      civil = civil_at secs;
      separator = 84;
      fraction = part.places;
      fraction_text = fraction_text nanos;
      zone_text = 90 ∷ [];
      offset = pos 0;
      whole = regroup (date_text (civil_at secs)) (clock_text (civil_at secs)) (fraction_text nanos) (90 ∷ []) 84;
      is_civil = record { year = below; date = ((omega (arith, signed_arith), omega (arith, signed_arith)), is.month, is.day); hour = omega arith; minute = omega arith; second = omega arith };
      is_separator = inl refl;
      is_fraction = part.is_fraction;
      is_zone = Upper;
      seconds = same_seconds (days_from_civil (pos (day_after n).year) (day_after n).month (day_after n).day) secs is.number;
      nanoseconds_is = part.worth;
      in_range = (h, k);
    }
