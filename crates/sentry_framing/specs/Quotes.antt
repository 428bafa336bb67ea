-- Quotes, and what ends the search for them.
use Rattle.std.specs.Prelude.{ℕ, Bool, List, ◌==◌, ◌||◌, count_by}

-- How many quotes there are.
unfoldable pub quotes : List ℕ → ℕ
quotes bs = count_by (λ b. b == 34) bs

-- Whether a byte is a brace or a backslash.
abbrev pub is_stop : ℕ → Bool
is_stop b = b == 123 || b == 125 || b == 92
