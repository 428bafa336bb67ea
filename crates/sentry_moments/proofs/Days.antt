-- The date that the calendar makes of a year, a month and a day.
use Rattle.std.proofs.Common.{◌≡◌, ℕ, ◌<◌, Some, Result, Ok, Err, IsOk, IfOk, ◌↔◌, refl, arith, pos, to_z, w8, w16}
use Rattle.std.proofs.lemmas.Int.{to_z_pos}
use Rattle.std.specs.Result.{result_ok}
use Rattle.jiff_core.specs.declared.civil.date.Date.{Date}
use Rattle.jiff_core.specs.declared.error.Error.{Error}
use Rattle.jiff_core.specs.Calendar.{IsDate, IsCivilDate, days_from_civil}
use Rattle.jiff_core.specs.Date.{epoch_day, IsYmd}
use Rattle.jiff_core.proofs.SignedLemmas.{signed_arith}

abbrev Made : ℕ → ℕ → ℕ → Result Date Error → Type 0
Made y m d r = (IsOk r ↔ IsDate (to_z w16 y) (to_z w8 m) (to_z w8 d)) × IfOk r (IsYmd (to_z w16 y) (to_z w8 m) (to_z w8 d))

pub made : (y m d : ℕ) → y < 10_000 → m < 100 → d < 100 → (r : Result Date Error) (date : Date) → Made y m d r → Some date ≡ result_ok r → IsCivilDate (pos y) m d × (epoch_day date ≡ days_from_civil (pos y) m d)
made y m d a b c (Err x) date h e = absurd cc
made y m d a b c (Ok x) date h e =
    let y-is = to_z_pos w16 y (omega arith) in
    let m-is = to_z_pos w8 m (omega arith) in
    let d-is = to_z_pos w8 d (omega arith) in
    let exists : IsDate (pos y) (pos m) (pos d) = rw (y-is, m-is, d-is) at (h.0.0 refl) in
    let parts : IsYmd (pos y) (pos m) (pos d) x = rw (y-is, m-is, d-is) at h.1 in
    let same : date ≡ x = cc in
    let month : x.month ≡ m = cc in
    let day : x.day ≡ d = cc in
    (grind (arith, signed_arith), rw (same, parts.0, month, day) refl)
