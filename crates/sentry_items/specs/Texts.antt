-- Texts of which large pieces are lent.
use Rattle.std.specs.Prelude.{List, ℕ, [], ◌∷◌, ◌++◌}
use Rattle.sentry_items.specs.declared.text.Part.{Part}
use Rattle.sentry_items.specs.declared.text.Text.{Text}

-- each part's own bytes, and then those that are lent
abbrev pub parts_bytes : List Part → List ℕ
parts_bytes [] = []
parts_bytes (p ∷ ps) = (p.own.items ++ p.lent.now) ++ parts_bytes ps

-- the bytes of the parts, and those that follow
abbrev pub bytes_of : Text → List ℕ
bytes_of t = parts_bytes t.parts.items ++ t.end.items
