-- Places in the bytes of an envelope, and what a reader has read of them.
use Rattle.std.specs.Prelude.{◌≡◌, ℕ, List, ◌++◌, length}

-- the part stands in the bytes at this offset
abbrev pub StandsAt : List ℕ → ℕ → List ℕ → Type 0
StandsAt bytes offset part = (before after : List ℕ) × (bytes ≡ before ++ (part ++ after)) × (length before ≡ offset)

-- all bytes, the header line, and the body that is left, which begins at this offset
pub record Progress : Type 0 where
  pub bytes : List ℕ
  pub header_line : List ℕ
  pub offset : ℕ
  pub rest : List ℕ
