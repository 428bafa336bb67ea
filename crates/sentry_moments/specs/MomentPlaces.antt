-- The text of a moment with all nine places, and where it ends without closing zeros. Cited by private calls alone.
use Rattle.std.specs.Prelude.{ℕ, ◌+◌, ◌==◌, List, [], ◌∷◌, ◌++◌, length, if◌then◌else◌}
use Rattle.sentry_moments.specs.Characters.{full_stop, upper_t, upper_z}
use Rattle.sentry_moments.specs.Digits.{digits, digits_without_closing_zeros}
use Rattle.sentry_moments.specs.Rfc3339.{Civil, date_text, clock_text}

-- `2020-07-20T14:51:14.296000000Z`
abbrev pub with_places : Civil → ℕ → List ℕ
with_places c nanos = date_text c ++ (upper_t ∷ (clock_text c ++ (full_stop ∷ (digits 9 nanos ++ upper_z ∷ []))))

-- how many bytes stand before the `Z`: none of the places where all are 0, and else the point and those up to the last that is not 0
abbrev pub end_of : ℕ → ℕ
end_of nanos = if nanos == 0 then 19 else 20 + length (digits_without_closing_zeros 9 nanos)
