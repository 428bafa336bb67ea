-- Tables of rows: a key, a rule and a kind.
use Rattle.std.specs.Prelude.{ℕ, List, [], ◌∷◌, ◌++◌, Bool}
use Rattle.serde_json.specs.Data.{Data, Members, no_members}
use Rattle.sentry_json.specs.Keys.{beside}
use Rattle.sentry_tables.specs.Cell.{Cell}

-- A kind of value that no table takes apart, as a text, a number or an id: each crate makes its
-- own.
pub record Scalar : Type 1 where
  -- the tree shows the value
  pub shows : Data → Cell → Type 0
  -- the written tree
  pub tree : Cell → Data
  -- the normal form: what the written tree shows
  pub norm : Cell → Cell
  -- whether the value is the tree null
  pub is_null : Cell → Bool
  -- what Rust's type holds of each of its values: the cell's shape, ranges, UTF-8
  pub stored : Cell → Type 0
  -- the trees in the value hold no floats
  pub plain : Cell → Type 0
  -- its printed text is read back, where that is not so of each value
  pub readable : Cell → Type 0

-- What a row asks for and what it writes.
pub data Rule : Type 1 where
  -- required; always written
  must : Rule
  -- absent or null is no value; no value is left out
  may : Rule
  -- absent or null is no value; no value is written as null
  may_null : Rule
  -- absent is no value, null is refused; no value is left out
  may_strict : Rule
  -- absent is this value, null is refused; a value is left out where its normal form is this one
  default : Cell → Rule
  -- absent is this value, null is refused; always written
  always : Cell → Rule
  -- absent is one of these values, drawn, null is refused; always written
  draw : (Cell → Type 0) → Rule
  -- absent is the moment that is handed in, null is refused; always written
  at_once : Rule

-- What becomes of the members that no row names: they are ignored, or kept, but for those of these
-- keys.
pub data Other : Type 0 where
  ignored : Other
  kept : List (List ℕ) → Other

mutual
  pub data Kind : Type 1 where
    scalar : Scalar → Kind
    -- an array, each item of which is of this kind
    list : Kind → Kind
    -- an object of any keys, each member of which is of this kind
    map : Kind → Kind
    -- a list that is written as an object, under the key `values`; read from a bare array too
    values : Kind → Kind
    -- an object with these rows, and other members
    table : Rows → Other → Kind
    -- an object whose text at the key `type` picks the case
    tagged : Cases → Kind
    -- an object of any keys, each member of which is tagged: of a member without a tag the key is
    -- the tag, where it is a word of the cases, and else this word is
    tagged_map : Cases → List ℕ → Kind

  -- in the order of the keys
  pub data Rows : Type 1 where
    no_rows : Rows
    row : List ℕ → Rule → Kind → Rows → Rows

  -- by the word at the key `type`: each with the rows of its table
  pub data Cases : Type 1 where
    no_cases : Cases
    case : List ℕ → Rows → Other → Cases → Cases

abbrev pub keys : Rows → List (List ℕ)
keys no_rows = []
keys (row k r K rows) = k ∷ keys rows

abbrev pub words : Cases → List (List ℕ)
words no_cases = []
words (case w rows o cases) = w ∷ words cases

abbrev pub tag : List ℕ
tag = 116 ∷ 121 ∷ 112 ∷ 101 ∷ []

-- the members that a table with these keys keeps beside its rows
abbrev pub others : Other → List (List ℕ) → Members → Members
others ignored ks ms = no_members
others (kept reserved) ks ms = beside (reserved ++ ks) ms
