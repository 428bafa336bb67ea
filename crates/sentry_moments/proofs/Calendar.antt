-- The day that many days after 1970-01-01 has that day number.
use Rattle.std.proofs.Common.{◌≡◌, ℕ, zero, suc, ◌+◌, ◌<◌, ◌≤◌, Bool, true, false, refl, sym, subst, ◌∙◌, arith, add-one, pos, nat_lt, inl, inr}
use Rattle.std.proofs.lemmas.Bool.{ltb-true, ltb-false}
use Rattle.std.specs.Int.{IsInRange}
use Rattle.jiff_core.specs.Calendar.{days_in_month, days_from_civil, day_count}
use Rattle.jiff_core.proofs.CalendarLemmas.{days_from_civil-day_count, days_in_month_bounds, day_count-epoch, day_count-end, day_count-later_year, day_count-day_of_year}
use Rattle.jiff_core.proofs.DateLemmas.{days_from_civil-day, days_from_civil-next_month, days_from_civil-next_year, epoch_day_injective}
use Rattle.jiff_core.specs.declared.civil.date.Date.{Date}
use Rattle.jiff_core.specs.Date.{epoch_day}
use Rattle.std.proofs.lemmas.Bool.{cases_lt}
use Rattle.jiff_core.proofs.SignedLemmas.{signed_arith}
use Rattle.sentry_moments.specs.MomentTexts.{Day, next_day, day_after}

-- a day of the calendar, with its day number
pub record IsDay (d : Day) (n : ℕ) : Type 0 where
  pub month : IsInRange 1 12 d.month
  pub day : IsInRange 1 (days_in_month (pos d.year) d.month) d.day
  pub number : days_from_civil (pos d.year) d.month d.day ≡ pos n

later_day : (y m d n : ℕ) → 1 ≤ d → days_from_civil (pos y) m d ≡ pos n → days_from_civil (pos y) m (d + 1) ≡ pos (n + 1)
later_day y m d n h e = omega (arith, signed_arith, days_from_civil-day (pos y) m d (d + 1) h (omega arith))

later_month : (y m d n : ℕ) → 1 ≤ m → d ≡ days_in_month (pos y) m → days_from_civil (pos y) m d ≡ pos n → days_from_civil (pos y) (m + 1) 1 ≡ pos (n + 1)
later_month y m d n h last e = omega (arith, signed_arith, days_from_civil-next_month (pos y) m d h last)

december : (y m d n : ℕ) → m ≡ 12 → d ≡ days_in_month (pos y) m → days_from_civil (pos y) m d ≡ pos n → days_from_civil (pos (y + 1)) 1 1 ≡ pos (n + 1)
december y m d n is last e =
    let long : days_in_month (pos y) 12 ≡ 31 = refl in
    let end : d ≡ 31 = rw is at last ∙ long in
    let here : days_from_civil (pos y) 12 31 ≡ pos n = subst (λ (k : ℕ). days_from_civil (pos y) 12 k ≡ pos n) end (subst (λ (k : ℕ). days_from_civil (pos y) k d ≡ pos n) is e) in
    omega (arith, signed_arith, days_from_civil-next_year (pos y) (pos (y + 1)) (omega (arith, signed_arith)) refl)

next_is : (d : Day) (n : ℕ) (b c : Bool) → nat_lt d.day (days_in_month (pos d.year) d.month) ≡ b → nat_lt d.month 12 ≡ c → IsDay d n → IsDay (next_day d) (n + 1)
next_is d n true c e f h =
    let lt = ltb-true d.day (days_in_month (pos d.year) d.month) e in
    rw e (record { month = h.month; day = (omega arith, omega arith); number = later_day d.year d.month d.day n h.day.0 h.number })
next_is d n false true e f h =
    let ge = ltb-false d.day (days_in_month (pos d.year) d.month) e in
    let lt = ltb-true d.month 12 f in
    let long = days_in_month_bounds (pos d.year) (d.month + 1) in
    rw (e, f) (record { month = (omega arith, omega arith); day = (omega arith, omega arith); number = later_month d.year d.month d.day n h.month.0 (omega (arith, h.day.1)) h.number })
next_is d n false false e f h =
    let ge = ltb-false d.day (days_in_month (pos d.year) d.month) e in
    let last = ltb-false d.month 12 f in
    let long = days_in_month_bounds (pos (d.year + 1)) 1 in
    rw (e, f) (record { month = (omega arith, omega arith); day = (omega arith, omega arith); number = december d.year d.month d.day n (omega (arith, h.month.1)) (omega (arith, h.day.1)) h.number })

first_day : days_from_civil (pos 1970) 1 1 ≡ pos 0
first_day = omega (arith, signed_arith, days_from_civil-day_count (pos 1970) 1 1, day_count-epoch)

pub day_after-is : (n : ℕ) → IsDay (day_after n) n
unfolding day_after
day_after-is zero = record { month = (omega arith, omega arith); day = (omega arith, omega arith); number = first_day }
day_after-is (suc n) =
    subst (λ (k : ℕ). IsDay (next_day (day_after n)) k) (add-one n) (next_is (day_after n) n (nat_lt (day_after n).day (days_in_month (pos (day_after n).year) (day_after n).month)) (nat_lt (day_after n).month 12) refl refl (day_after-is n))

-- ---- the calendar's own dates

later_years : (y : ℕ) → 10_000 ≤ y → 7_304_850 ≤ day_count (pos y) 1 1
later_years y h =
    elim (cases_lt 10_000 y) [
      | inl lt ↦ omega (arith, day_count-end, day_count-later_year (pos 10_000) (pos y) (omega (arith, signed_arith)) (omega (arith, signed_arith)))
      | inr le ↦ let same : y ≡ 10_000 = omega arith in rw (same, day_count-end) (omega arith)
    ]

pub year_below : (d : Day) (n : ℕ) → IsDay d n → n ≤ 2_932_896 → d.year < 10_000
year_below d n h small =
    elim (cases_lt d.year 10_000) [
      | inl lt ↦ lt
      | inr le ↦ absurd (omega (arith, signed_arith, h.number, days_from_civil-day_count (pos d.year) d.month d.day, later_years d.year le, day_count-day_of_year (pos d.year) d.month d.day h.day.0, h.day.0))
    ]

pub same_date : (date : Date) (n : ℕ) → n ≤ 2_932_896 → epoch_day date ≡ pos n → (date.year ≡ pos (day_after n).year) × (date.month ≡ (day_after n).month) × (date.day ≡ (day_after n).day)
same_date date n small e =
    let is = day_after-is n in
    let below = year_below (day_after n) n is small in
    let other : Date = record { year = pos (day_after n).year; month = (day_after n).month; day = (day_after n).day; year_in = (omega (arith, signed_arith), omega (arith, signed_arith)); month_in = is.month; day_in = is.day } in
    epoch_day_injective date other (e ∙ sym is.number)
