-- What forwarding leaves of envelopes that are accepted, and when what is left is accepted.
use Rattle.std.specs.Prelude.{◌≡◌, ℕ, Bool, true, List, [], ◌∷◌, ⊤}
use Rattle.sentry_tables.specs.Cell.{Cell}
use Rattle.sentry_tables.specs.Laws.{TextShows}
use Rattle.sentry_framing.specs.Framing.{IsLineAndBody}
use Rattle.sentry_forward.specs.AnyHeader.{any_reading, is_object_line}
use Rattle.sentry_forward.specs.Forward.{ArePieces, Leaves, Piece, kept}
use Rattle.sentry_envelope.specs.Profile.{Profile}
use Rattle.sentry_envelope.specs.Envelope.{Envelope, Item, ItemShows, Spells, first_id}

-- each of these pieces shows the item at its place
abbrev pub PiecesShow : Profile → Cell → List Piece → List Item → Type 0
PiecesShow P now [] [] = ⊤
PiecesShow P now [] (i ∷ is) = ⊥
PiecesShow P now (piece ∷ pieces) [] = ⊥
PiecesShow P now (piece ∷ pieces) (i ∷ is) = ItemShows P now piece.frame i × PiecesShow P now pieces is

-- the bytes are framed, by item headers of any type, into pieces that show these items
pub record AreFramedInto (P : Profile) (now : Cell) (bytes : List ℕ) (items : List Item) : Type 0 where
  pub line : List ℕ
  pub body : List ℕ
  pub pieces : List Piece
  pub header : IsLineAndBody bytes line body
  pub object : is_object_line line ≡ true
  pub framed : ArePieces any_reading body pieces
  pub shown : PiecesShow P now pieces items

-- Bytes that spell an envelope are framed into its items.
abbrev pub SpelledAreFramed : Profile → Type 0
SpelledAreFramed P = (bytes : List ℕ) (now : Cell) (e : Envelope) → Spells P bytes now e → AreFramedInto P now bytes e.items

-- What is left of an envelope spells one of just the kept items, if its header line and these items
-- are shown.
abbrev pub ForwardedAreSpelled : Profile → Type 0
ForwardedAreSpelled P =
    (bytes line : List ℕ) (pieces : List Piece) (answers : List Bool) (text : List ℕ) (now shown : Cell) (items : List Item)
    → Leaves any_reading bytes line pieces answers text → TextShows P.header now line shown → PiecesShow P now (kept pieces answers) items
    → Spells P text now (record { header = P.fill (first_id P.types items) shown; items = items })

-- What is left of bytes that spell an envelope spells one of its kept items.
abbrev pub KeptAreSpelled : Profile → Type 0
KeptAreSpelled P =
    (bytes : List ℕ) (now : Cell) (e : Envelope) (line : List ℕ) (pieces : List Piece) (answers : List Bool) (text : List ℕ)
    → Spells P bytes now e → Leaves any_reading bytes line pieces answers text
    → (shown : Cell) × TextShows P.header now line shown
    × Spells P text now (record { header = P.fill (first_id P.types (kept e.items answers)) shown; items = kept e.items answers })
