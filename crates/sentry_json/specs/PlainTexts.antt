-- Texts that stand for themselves in a string.
use Rattle.std.specs.Prelude.{ℕ, List, [], ◌∷◌, ◌&&◌, Bool, true}
use Rattle.json.specs.Run.{is_plain}

-- no byte of it is a quote, a backslash or a control byte
abbrev pub is_plain_text : List ℕ → Bool
is_plain_text [] = true
is_plain_text (x ∷ xs) = is_plain x && is_plain_text xs
