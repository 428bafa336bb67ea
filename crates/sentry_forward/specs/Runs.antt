-- Runs of a string's bytes that stand for themselves and are ASCII. Only the crate's private clauses
-- cite it.
use Rattle.std.specs.Prelude.{ℕ, Bool, not, ◌||◌, ◌==◌, nat_lt}

-- a quote, a backslash, a control byte, or a byte that isn't ASCII
abbrev pub ends_run : ℕ → Bool
ends_run x = (((x == 34) || (x == 92)) || nat_lt x 32) || nat_lt 127 x

abbrev pub is_in_run : ℕ → Bool
is_in_run x = not (ends_run x)
