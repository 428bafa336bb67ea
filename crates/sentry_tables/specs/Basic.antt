-- Scalars that are texts, truth values, whole numbers, trees, pairs and words.
use Rattle.std.specs.Prelude.{◌≡◌, ℕ, ◌<◌, ◌^◌, pos, negsuc, Bool, false, Option, Some, None, option_map, option_and_then, cond, nat_lt, IsUtf8, ⊤}
use Rattle.serde_json.specs.Data.{Num, unsigned, negative, float, Data, null, boolean, number, string, array, Items, no_items, item}
use Rattle.serde_json.specs.Find.{as_array, as_str, as_bool, as_number, as_u64}
use Rattle.serde_json.specs.Written.{has_float}
use Rattle.sentry_json.specs.Sound.{IsRegular, HasTexts}
use Rattle.sentry_tables.specs.Cell.{Cell, text, truth, whole, any, sequence, cell, no_cells}
use Rattle.sentry_tables.specs.Kind.{Scalar}
use Rattle.sentry_tables.specs.Written.{is_null}

-- a scalar that is read by a function and is its own normal form
abbrev pub read_by : (Data → Option Cell) → (Cell → Data) → (Cell → Type 0) → Scalar
read_by reads writes Stored =
    record { shows = λ d c. reads d ≡ Some c; tree = writes; norm = λ c. c; is_null = λ c. false; stored = Stored; plain = λ c. ⊤; readable = λ c. ⊤ }

-- ---- texts

abbrev pub IsText : Cell → Type 0
IsText (text s) = IsUtf8 s
IsText _ = ⊥

abbrev pub text_tree : Cell → Data
text_tree (text s) = string s
text_tree _ = null

abbrev pub text_scalar : Scalar
text_scalar = read_by (λ d. option_map text (as_str d)) text_tree IsText

-- ---- truth values

abbrev pub IsTruth : Cell → Type 0
IsTruth (truth b) = ⊤
IsTruth _ = ⊥

abbrev pub truth_tree : Cell → Data
truth_tree (truth b) = boolean b
truth_tree _ = null

abbrev pub truth_scalar : Scalar
truth_scalar = read_by (λ d. option_map truth (as_bool d)) truth_tree IsTruth

-- ---- whole numbers

abbrev pub whole_below : ℕ → ℕ → Option Cell
whole_below bound n = cond (nat_lt n bound) (Some (whole (pos n))) None

abbrev pub negative_above : ℕ → ℕ → Option Cell
negative_above bound n = cond (nat_lt n bound) (Some (whole (negsuc n))) None

abbrev pub IsBelow : ℕ → Cell → Type 0
IsBelow bound (whole (pos n)) = n < bound
IsBelow bound _ = ⊥

-- from -bound up to bound, bound left out
abbrev pub IsWithin : ℕ → Cell → Type 0
IsWithin bound (whole (pos n)) = n < bound
IsWithin bound (whole (negsuc n)) = n < bound
IsWithin bound _ = ⊥

abbrev pub whole_tree : Cell → Data
whole_tree (whole (pos n)) = number (unsigned n)
whole_tree (whole (negsuc n)) = number (negative (negsuc n))
whole_tree _ = null

-- whole numbers below the bound
abbrev pub unsigned_scalar : ℕ → Scalar
unsigned_scalar bound = read_by (λ d. option_and_then (whole_below bound) (option_and_then as_u64 (as_number d))) whole_tree (IsBelow bound)

abbrev pub signed_at : ℕ → Num → Option Cell
signed_at bound (unsigned n) = whole_below bound n
signed_at bound (negative (pos n)) = None
signed_at bound (negative (negsuc n)) = negative_above bound n
signed_at bound (float x) = None

-- whole numbers from -bound up to bound, bound left out
abbrev pub signed_scalar : ℕ → Scalar
signed_scalar bound = read_by (λ d. option_and_then (signed_at bound) (as_number d)) whole_tree (IsWithin bound)

-- ---- pairs of whole numbers below 2^64: arrays of exactly two

abbrev pub u64_of : Data → Option ℕ
u64_of d = option_and_then as_u64 (as_number d)

abbrev pub pair_cell : ℕ → ℕ → Cell
pair_cell m n = sequence (cell (whole (pos m)) (cell (whole (pos n)) no_cells))

abbrev pub pair_of : Items → Option Cell
pair_of no_items = None
pair_of (item a no_items) = None
pair_of (item a (item b no_items)) = option_and_then (λ m. option_map (pair_cell m) (u64_of b)) (u64_of a)
pair_of (item a (item b (item c ds))) = None

abbrev pub IsPair : Cell → Type 0
IsPair (sequence (cell (whole (pos m)) (cell (whole (pos n)) no_cells))) = (m < 2 ^ 64) × (n < 2 ^ 64)
IsPair _ = ⊥

abbrev pub pair_tree : Cell → Data
pair_tree (sequence (cell a (cell b no_cells))) = array (item (whole_tree a) (item (whole_tree b) no_items))
pair_tree _ = null

abbrev pub pair_scalar : Scalar
pair_scalar = read_by (λ d. option_and_then pair_of (as_array d)) pair_tree IsPair

-- ---- trees

-- what a tree of the program holds: numbers in range, texts in UTF-8, keys in order
abbrev pub IsTree : Cell → Type 0
IsTree (any d) = IsRegular d × HasTexts d
IsTree _ = ⊥

abbrev pub IsWholeTree : Cell → Type 0
IsWholeTree (any d) = has_float d ≡ false
IsWholeTree _ = ⊤

abbrev pub any_tree : Cell → Data
any_tree (any d) = d
any_tree _ = null

abbrev pub is_null_tree : Cell → Bool
is_null_tree (any d) = is_null d
is_null_tree _ = false

abbrev pub any_scalar : Scalar
any_scalar =
    record { shows = λ d c. any d ≡ c; tree = any_tree; norm = λ c. c; is_null = is_null_tree; stored = IsTree; plain = IsWholeTree; readable = λ c. ⊤ }
