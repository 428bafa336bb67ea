-- What a type's default holds, row by row of its table.
use Rattle.std.specs.Prelude.{◌≡◌, List, [], ◌∷◌, false, pos, ⊤}
use Rattle.sentry_tables.specs.Cell.{Cell, absent, text, truth, whole, sequence, mapping, no_cells, no_entries}
use Rattle.sentry_tables.specs.Fields.{Field}
use Rattle.sentry_tables.specs.Kind.{Rule, must, may, may_null, may_strict, default, always, draw, at_once}

-- the empty text, 0, false, the empty list, the empty map
abbrev pub IsEmpty : Cell → Type 0
IsEmpty (text s) = s ≡ []
IsEmpty (whole n) = n ≡ pos 0
IsEmpty (truth b) = b ≡ false
IsEmpty (sequence cs) = cs ≡ no_cells
IsEmpty (mapping es) = es ≡ no_entries
IsEmpty _ = ⊥

-- no value where a row may have none; what stands for an absent one where the row names that; else
-- what is empty
abbrev pub IsRowDefault : Cell → Rule → Cell → Type 0
IsRowDefault now must c = IsEmpty c
IsRowDefault now may c = c ≡ absent
IsRowDefault now may_null c = c ≡ absent
IsRowDefault now may_strict c = c ≡ absent
IsRowDefault now (default D) c = c ≡ D
IsRowDefault now (always D) c = c ≡ D
IsRowDefault now (draw Drawn) c = Drawn c
IsRowDefault now at_once c = c ≡ now

-- each row holds its default, at the moment now
abbrev pub IsDefaultAt : {A : Type 0} → Cell → List (Field A) → A → Type 0
IsDefaultAt now [] v = ⊤
IsDefaultAt now (f ∷ fs) v = IsRowDefault now f.rule (f.part v) × IsDefaultAt now fs v

-- and at every moment, of a table whose rows don't ask for one
abbrev pub IsDefault : {A : Type 0} → List (Field A) → A → Type 0
IsDefault fs v = (now : Cell) → IsDefaultAt now fs v
