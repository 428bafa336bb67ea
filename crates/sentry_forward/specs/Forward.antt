-- What is left of an envelope of which some items are dropped.
use Rattle.std.specs.Prelude.{◌≡◌, ℕ, Bool, true, false, List, [], ◌∷◌, ◌++◌}
use Rattle.sentry_framing.specs.Framing.{Reading, Frame, IsFirstFrame, IsLineAndBody}

-- a frame, and all bytes of its item: white space in front, the frame, and the line feeds
pub record Piece : Type 0 where
  pub frame : Frame
  pub bytes : List ℕ

-- the body consists of these pieces
abbrev pub ArePieces : Reading → List ℕ → List Piece → Type 0
ArePieces reads body [] = body ≡ []
ArePieces reads body (piece ∷ pieces) = (next : List ℕ) × IsFirstFrame reads body piece.frame next × (body ≡ piece.bytes ++ next) × ArePieces reads next pieces

abbrev pub joined : List Piece → List ℕ
joined [] = []
joined (piece ∷ pieces) = piece.bytes ++ joined pieces

-- what was answered yes
abbrev pub kept : {A : Type 0} → List A → List Bool → List A
kept [] answers = []
kept (x ∷ xs) [] = []
kept (x ∷ xs) (true ∷ answers) = x ∷ kept xs answers
kept (x ∷ xs) (false ∷ answers) = kept xs answers

-- what was answered no
abbrev pub dropped : {A : Type 0} → List A → List Bool → List A
dropped [] answers = []
dropped (x ∷ xs) [] = []
dropped (x ∷ xs) (true ∷ answers) = dropped xs answers
dropped (x ∷ xs) (false ∷ answers) = x ∷ dropped xs answers

-- The envelope in these bytes has this header line, and these pieces behind it. The text is the
-- bytes without the pieces that were answered no.
pub record Leaves (reads : Reading) (bytes line : List ℕ) (pieces : List Piece) (answers : List Bool) (text : List ℕ) : Type 0 where
  pub front : List ℕ
  pub body : List ℕ
  pub header : IsLineAndBody bytes line body
  pub parts : bytes ≡ front ++ body
  pub framed : ArePieces reads body pieces
  pub left : text ≡ front ++ joined (kept pieces answers)

-- ---- answers

-- a filter is asked about each element in turn, gives these answers, and goes from one state to
-- another
abbrev pub Asked : {F X : Type 0} → (F → X → Bool → F → Type 0) → F → List X → List Bool → F → Type 0
Asked ask first [] [] last = last ≡ first
Asked ask first [] (b ∷ bs) last = ⊥
Asked ask first (x ∷ xs) [] last = ⊥
Asked {F} ask first (x ∷ xs) (b ∷ bs) last = (next : F) × ask first x b next × Asked ask next xs bs last
