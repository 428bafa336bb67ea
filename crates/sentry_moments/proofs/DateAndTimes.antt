-- A date and a time of 19 bytes: what their bytes say, and the bytes that say it.
use Rattle.std.proofs.Common.{◌≡◌, ℕ, zero, suc, ◌+◌, ◌-◌, ◌*◌, ◌/◌, ◌%◌, ◌<◌, ◌≤◌, ◌⊎◌, ◌↔◌, inl, inr, Bool, true, false, cond, ltb, eqb, ◌&&◌, ◌||◌, List, [], ◌∷◌, ◌++◌, length, get_or, map, take, length-take, w8, ◌^◌, refl, sym, ap, subst, ◌∙◌, arith, length-append, ℤ, pos}
use Rattle.std.specs.Bool.{Decides}
use Rattle.std.specs.Int.{IsInRange}
use Rattle.jiff_core.specs.Calendar.{IsCivilDate, days_from_civil, days_in_month}
use Rattle.jiff_core.proofs.SignedLemmas.{signed_arith}
use Rattle.jiff_core.proofs.CalendarLemmas.{days_in_month_bounds}
use Rattle.std.proofs.lemmas.Bool.{and_parts, ltb-true, ltb-false, le-ltb}
use Rattle.std.proofs.lemmas.Bool.Decides.{nat_tests, Decides-and, Decides-or, Decides-eqb, not_from_Decides}
use Rattle.std.proofs.lemmas.Simd.{tops_compared, mask_l-mod, length-zip2}
use lib.Lanes.{zip2, mask_l, top}
use lib.Pointwise.{bytes_decides}
use lib.Dec.{leb}
use Rattle.sentry_moments.specs.Digits.{digits}
use Rattle.sentry_moments.specs.Rfc3339.{Civil, IsCivil, IsSeparator, date_text, clock_text}
use Rattle.sentry_moments.specs.Rfc3339Parts.{HasDigit, HasForm, number_at, IsDateAndTime}
use Rattle.sentry_moments.proofs.Lengths.{date_size, clock_size}

-- ---- lanes

-- each byte lies at most so far above the lowest one of its place
abbrev AllWithin : List ℕ → List ℕ → (ℕ → ℕ) → Type 0
AllWithin (l ∷ ls) (a ∷ ds) byte = ((l ≤ byte 0) × (byte 0 ≤ l + a)) × AllWithin ls ds (λ k. byte (suc k))
AllWithin (l ∷ ls) [] byte = Unit {0}
AllWithin [] ds byte = Unit {0}

-- and that is no more than a byte
abbrev is_room : List ℕ → List ℕ → Bool
is_room (l ∷ ls) (a ∷ ds) = ltb (l + a) 256 && is_room ls ds
is_room (l ∷ ls) [] = true
is_room [] ds = true

abbrev less : ℕ → ℕ → ℕ
less c l = (c + (256 - l)) % 256

zero_bits : (b : Bool) (n : ℕ) → cond b 1 0 + 2 * n ≡ 0 ↔ ((b ≡ false) × (n ≡ 0))
zero_bits true n = (λ e. absurd (omega arith), λ h. absurd (let wrong = h.0 in cc))
zero_bits false n = (λ e. (refl, omega arith), λ h. omega (arith, h.1))

-- no bit is set where all bytes lie within, and only there
lanes : (ls ds cs : List ℕ) → is_room ls ds ≡ true → length ls ≤ length cs → ((k : ℕ) → get_or cs k 0 < 256) → mask_l (zip2 ltb ds (zip2 less (take (length ls) cs) ls)) ≡ 0 ↔ AllWithin ls ds (λ k. get_or cs k 0)
lanes [] [] cs room long fits = (λ e. tt, λ h. refl)
lanes [] (a ∷ ds) cs room long fits = (λ e. tt, λ h. refl)
lanes (l ∷ ls) [] cs room long fits = (λ e. tt, λ h. refl)
lanes (l ∷ ls) (a ∷ ds) [] room long fits = absurd (omega (arith, long))
lanes (l ∷ ls) (a ∷ ds) (c ∷ cs) room long fits =
    let both = and_parts (ltb (l + a) 256) (is_room ls ds) room in
    let small = ltb-true (l + a) 256 both.0 in
    let byte : c < 256 = fits 0 in
    let bits = zero_bits (ltb a (less c l)) (mask_l (zip2 ltb ds (zip2 less (take (length ls) cs) ls))) in
    let rest = lanes ls ds cs both.1 (omega (arith, long)) (λ k. fits (suc k)) in (
      λ e.
          let zero = bits.0 e in
          let near : less c l ≤ a = ltb-false a (less c l) zero.0 in
          ((omega arith, omega arith), rest.0 zero.1),
      λ h.
          let within = h.0 in
          let near : less c l ≤ a = omega (arith, within.0, within.1) in
          bits.1 (le-ltb a (less c l) near, rest.1 h.1),
    )

-- ---- the bytes of a minute

abbrev lowest : List ℕ
lowest = 48 ∷ 48 ∷ 48 ∷ 48 ∷ 45 ∷ 48 ∷ 48 ∷ 45 ∷ 48 ∷ 48 ∷ 0 ∷ 48 ∷ 48 ∷ 58 ∷ 48 ∷ 48 ∷ []

abbrev above : List ℕ
above = 9 ∷ 9 ∷ 9 ∷ 9 ∷ 0 ∷ 9 ∷ 9 ∷ 0 ∷ 9 ∷ 9 ∷ 255 ∷ 9 ∷ 9 ∷ 0 ∷ 5 ∷ 9 ∷ []

abbrev pub mask : List ℕ → ℕ
mask t = mask_l (map (top 7) (zip2 (λ a b. cond (ltb a b) 255 0) above (zip2 less (take 16 t) lowest))) % 2 ^ 64

mask_is : (t : List ℕ) → length t ≡ 19 → mask t ≡ mask_l (zip2 ltb above (zip2 less (take 16 t) lowest))
mask_is t long =
    let lanes = zip2 less (take 16 t) lowest in
    let sixteen : length (take 16 t) ≡ 16 = omega (arith, length-take 16 t) in
    let same : length lanes ≡ 16 = length-zip2 less (take 16 t) lowest sixteen ∙ sixteen in
    ap (λ (ms : List Bool). mask_l ms % 2 ^ 64) (tops_compared w8 ltb above lanes)
    ∙ mask_l-mod (zip2 ltb above lanes) 64 (omega (arith, length-zip2 ltb above lanes (sym same)))

-- what the lanes say of a text
pub no_bits : (t : List ℕ) → length t ≡ 19 → ((k : ℕ) → get_or t k 0 < 256) → mask t ≡ 0 ↔ AllWithin lowest above (λ k. get_or t k 0)
no_bits t long fits =
    let is = mask_is t long in
    let within = lanes lowest above t refl (omega arith) fits in
    (λ e. within.0 (sym is ∙ e), λ h. is ∙ within.1 h)

-- ---- what the bytes say

abbrev first : ℕ → (ℕ → ℕ) → List ℕ
first zero item = []
first (suc n) item = item 0 ∷ first n (λ k. item (suc k))

all_items : (t : List ℕ) → t ≡ first (length t) (λ k. get_or t k 0)
all_items [] = refl
all_items (c ∷ cs) = ap (λ (l : List ℕ). c ∷ l) (all_items cs)

pub items : (t : List ℕ) (n : ℕ) → length t ≡ n → t ≡ first n (λ k. get_or t k 0)
items t n long = all_items t ∙ ap (λ (n : ℕ). first n (λ k. get_or t k 0)) long

pub pair : (t : List ℕ) (place : ℕ) → HasDigit t place → HasDigit t (place + 1) → digits 2 (number_at t place) ≡ get_or t place 0 ∷ get_or t (place + 1) 0 ∷ []
unfolding digits
pair t place tens ones =
    let n = number_at t place in
    let high : 48 + n / 10 % 10 ≡ get_or t place 0 = omega arith in
    let low : 48 + n % 10 ≡ get_or t (place + 1) 0 = omega arith in
    cc

four_cells : (c y : ℕ) → c < 100 → y < 100 → digits 4 (c * 100 + y) ≡ digits 2 c ++ digits 2 y
unfolding digits
four_cells c y h k =
    let n = c * 100 + y in
    let a1 : 48 + c / 10 % 10 ≡ 48 + n / 10 / 10 / 10 % 10 = omega arith in
    let a2 : 48 + c % 10 ≡ 48 + n / 10 / 10 % 10 = omega arith in
    let a3 : 48 + y / 10 % 10 ≡ 48 + n / 10 % 10 = omega arith in
    let a4 : 48 + y % 10 ≡ 48 + n % 10 = omega arith in
    cc

-- the date and the time that the digits write
abbrev pub civil_of : List ℕ → Civil
civil_of t = record { year = number_at t 0 * 100 + number_at t 2; month = number_at t 5; day = number_at t 8; hour = number_at t 11; minute = number_at t 14; second = number_at t 17 }

abbrev text_of : Civil → ℕ → List ℕ
text_of c separator = date_text c ++ separator ∷ clock_text c

abbrev day_of : Civil → ℤ
day_of c = days_from_civil (pos c.year) c.month c.day

abbrev second_of : Civil → ℕ
second_of c = c.hour * 3_600 + c.minute * 60 + c.second

pub below_60 : (b : ℕ) → IsInRange 48 53 b → IsInRange 48 57 b
below_60 b h = (h.0, omega (arith, h.1))

whole_is : (t : List ℕ) → length t ≡ 19 → HasForm t → t ≡ text_of (civil_of t) (get_or t 10 0)
unfolding date_text clock_text
whole_is t long h =
    let year = four_cells (number_at t 0) (number_at t 2) (omega (arith, h.year)) (omega (arith, h.year)) in
    let century = pair t 0 h.year.0 h.year.1 in
    let in_century = pair t 2 h.year.2 h.year.3 in
    let month = pair t 5 h.month.1 h.month.2 in
    let day = pair t 8 h.day.1 h.day.2 in
    let hour = pair t 11 h.hour.0 h.hour.1 in
    let minute = pair t 14 (below_60 (get_or t 14 0) h.minute.1) h.minute.2 in
    let second = pair t 17 (below_60 (get_or t 17 0) h.second.1) h.second.2 in
    items t 19 long ∙ rw (year, century, in_century, month, day, hour, minute, second, h.month.0, h.day.0, h.minute.0, h.second.0) refl

-- what writes the date and the time that a text is
abbrev DateForm : List ℕ → Type 0
DateForm t = (t ≡ text_of (civil_of t) (get_or t 10 0)) × (IsSeparator (get_or t 10 0) × IsCivil (civil_of t))

pub dated : (t : List ℕ) → DateForm t → IsDateAndTime t (day_of (civil_of t)) (second_of (civil_of t))
dated t h = record { civil = civil_of t; separator = get_or t 10 0; whole = h.0; is_separator = h.1.0; is_civil = h.1.1; day_is = refl; second_is = refl }

pub has_date_form : (t : List ℕ) → length t ≡ 19 → HasForm t → number_at t 11 < 24 → IsCivilDate (pos (number_at t 0 * 100 + number_at t 2)) (number_at t 5) (number_at t 8) → DateForm t
has_date_form t long h hour date =
    (whole_is t long h, (h.separator, record { year = omega (arith, h.year); date = date; hour = hour; minute = omega (arith, h.minute); second = omega (arith, h.second) }))

-- ---- and the other way

year_again : (n : ℕ) → n < 10_000 → ((48 + n / 10 / 10 / 10 % 10 - 48) * 10 + (48 + n / 10 / 10 % 10 - 48)) * 100 + ((48 + n / 10 % 10 - 48) * 10 + (48 + n % 10 - 48)) ≡ n
year_again n h = omega arith

pub number_again : (n : ℕ) → n < 100 → (48 + n / 10 % 10 - 48) * 10 + (48 + n % 10 - 48) ≡ n
number_again n h = omega arith

civil_again : (c : Civil) (separator : ℕ) → IsCivil c → civil_of (text_of c separator) ≡ c
unfolding date_text clock_text digits
civil_again c separator h =
    let day : c.day < 100 = omega (arith, h.date.2.1, days_in_month_bounds (pos c.year) c.month) in
    rw (year_again c.year h.year, number_again c.month (omega (arith, h.date.1.1)), number_again c.day day, number_again c.hour (omega (arith, h.hour)), number_again c.minute (omega (arith, h.minute)), number_again c.second (omega (arith, h.second))) refl

form_again : (c : Civil) (separator : ℕ) → IsCivil c → IsSeparator separator → HasForm (text_of c separator)
unfolding date_text clock_text digits
form_again c separator h is = grind arith

-- the form of a date and a time, its number of the day and its second
pub parts : (t : List ℕ) (day : ℤ) (second : ℕ) → IsDateAndTime t day second → (DateForm t) × HasForm t × (day ≡ day_of (civil_of t)) × (second ≡ second_of (civil_of t))
unfolding date_text digits
parts t day second r =
    let civil : r.civil ≡ civil_of t = sym (ap civil_of r.whole ∙ civil_again r.civil r.separator r.is_civil) in
    let separator : r.separator ≡ get_or t 10 0 = sym (ap (λ (l : List ℕ). get_or l 10 0) r.whole) in (
      (
        r.whole ∙ ap (λ (c : Civil). text_of c r.separator) civil ∙ ap (text_of (civil_of t)) separator,
        (subst IsSeparator separator r.is_separator, subst IsCivil civil r.is_civil),
      ),
      subst HasForm (sym r.whole) (form_again r.civil r.separator r.is_civil r.is_separator),
      r.day_is ∙ ap day_of civil,
      r.second_is ∙ ap second_of civil,
    )

pub date_and_time_size : (t : List ℕ) (day : ℤ) (second : ℕ) → IsDateAndTime t day second → length t ≡ 19
date_and_time_size t day second r =
    omega (arith, ap length r.whole, length-append (date_text r.civil) (r.separator ∷ clock_text r.civil), date_size r.civil, clock_size r.civil)

pub one_date_and_time : (t : List ℕ) (day d : ℤ) (second s : ℕ) → IsDateAndTime t day second → IsDateAndTime t d s → (day ≡ d) × (second ≡ s)
one_date_and_time t day d second s a b =
    let first = parts t day second a in
    let other = parts t d s b in
    (first.2 ∙ sym other.2, first.3 ∙ sym other.3)

-- ---- decided

pub or_not : {P : Type 0} (b : Bool) → Decides b P → P ⊎ (P → ⊥)
or_not true h = inl (h.0 refl)
or_not false h = inr (not_from_Decides false h refl)

abbrev is_civil : Civil → Bool
is_civil c = ltb c.year 10_000 && leb 1 c.month && leb c.month 12 && leb 1 c.day && leb c.day (days_in_month (pos c.year) c.month) && ltb c.hour 24 && ltb c.minute 60 && ltb c.second 60

decides_civil : (c : Civil) → Decides (is_civil c) (IsCivil c)
decides_civil c = (λ e. grind (arith, signed_arith, nat_tests), λ h. grind (arith, signed_arith, nat_tests))

decides_separator : (b : ℕ) → Decides (eqb b 84 || (eqb b 116 || eqb b 32)) (IsSeparator b)
decides_separator b = Decides-or _ _ (Decides-eqb b 84) (Decides-or _ _ (Decides-eqb b 116) (Decides-eqb b 32))

pub date_and_time_or_not : (t : List ℕ) → ((day : ℤ) × (second : ℕ) × IsDateAndTime t day second) ⊎ ((day : ℤ) (second : ℕ) → IsDateAndTime t day second → ⊥)
date_and_time_or_not t =
    elim (or_not _ (Decides-and _ _ (bytes_decides t (text_of (civil_of t) (get_or t 10 0))) (Decides-and _ _ (decides_separator (get_or t 10 0)) (decides_civil (civil_of t))))) [
      | inl is ↦ inl (day_of (civil_of t), second_of (civil_of t), dated t is)
      | inr not ↦ inr (λ day second r. not (parts t day second r).0)
    ]
