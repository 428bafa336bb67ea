-- Attributes of logs and metrics: objects of a type and a value.
use Rattle.std.specs.Prelude.{◌≡◌, ℕ, List, [], ◌∷◌, codes, Bool, false, cond, is_some, Result, Ok, Err, Option, Some, None, option_map, option_and_then, ⊤}
use Rattle.serde_json.specs.Data.{Num, Data, null, boolean, number, string, array, object, Members, no_members, member}
use Rattle.serde_json.specs.Find.{get, as_str, as_bool, as_number, as_i64, of_integer}
use Rattle.serde_json.specs.Written.{has_float, compact_text}
use Rattle.sentry_tables.specs.Cell.{Cell, any}
use Rattle.sentry_tables.specs.Kind.{Scalar, Kind, scalar, tag}
use Rattle.sentry_tables.specs.Basic.{IsTree, IsWholeTree}
use Rattle.serde_json.specs.View.{view}
use Rattle.serde_json.specs.declared.value.Value.{Value}
use Rattle.sentry_tables.specs.Cells.{tree_cell}
use Rattle.sentry_tables.specs.Reading.{Only}
use Rattle.sentry_tables.specs.declared.error.TreeError.{TreeError}
use Rattle.sentry_words.specs.Lookup.{lookup}
use Rattle.sentry_records.specs.declared.log_attribute.LogAttribute.{LogAttribute}

-- `value`
abbrev pub value_key : List ℕ
value_key = codes "value"

-- whether the number is whole and from -2^63 up to 2^63, bound left out
abbrev pub is_integer : Num → Bool
is_integer n = is_some (as_i64 n)

-- ---- read

abbrev pub text_value : Data → Option Data
text_value d = option_map string (as_str d)

abbrev pub integer_value : Data → Option Data
integer_value d = option_map (λ z. number (of_integer z)) (option_and_then as_i64 (as_number d))

abbrev pub truth_value : Data → Option Data
truth_value d = option_map boolean (as_bool d)

-- `string` names a text, `integer` a whole number of 64 bits with sign, `boolean` a truth value; no other word has a value
abbrev pub readers : List (List ℕ × (Data → Option Data))
readers = (codes "string", text_value) ∷ (codes "integer", integer_value) ∷ (codes "boolean", truth_value) ∷ []

-- the value, where it is of the type that is named
abbrev pub typed_value : List ℕ → Data → Option Data
typed_value word d = option_and_then (λ reader. reader d) (lookup readers word)

-- what a reader of such a value answers
abbrev pub ReadsTyped : List ℕ → Data → Result Value TreeError → Type 0
ReadsTyped word d (Ok v) = typed_value word d ≡ Some (view v)
ReadsTyped word d (Err e) = Only e (typed_value word d ≡ None)

-- by the text at `type` and the value at `value`; other keys are ignored
abbrev pub attribute_of : Data → Option Cell
attribute_of d = option_map any (option_and_then (λ word. option_and_then (typed_value word) (get value_key d)) (option_and_then as_str (get tag d)))

-- ---- written

-- the compact text; of a tree with a float none is written
abbrev pub compacted : Data → Data
compacted d = string (cond (has_float d) [] (compact_text d))

-- a text, a truth value and a whole number below 2^63 as they are, all else as its compact text
abbrev pub attribute_form : Data → Data
attribute_form null = compacted null
attribute_form (boolean b) = boolean b
attribute_form (number n) = cond (is_integer n) (number n) (compacted (number n))
attribute_form (string s) = string s
attribute_form (array ds) = compacted (array ds)
attribute_form (object ms) = compacted (object ms)

abbrev pub type_word : Data → List ℕ
type_word (boolean b) = codes "boolean"
type_word (number n) = codes "integer"
type_word _ = codes "string"

abbrev pub attribute_members : Data → Members
attribute_members form = member tag (string (type_word form)) (member value_key form no_members)

abbrev pub attribute_tree : Cell → Data
attribute_tree (any d) = object (attribute_members (attribute_form d))
attribute_tree _ = null

abbrev pub attribute_norm : Cell → Cell
attribute_norm (any d) = any (attribute_form d)
attribute_norm c = c

abbrev pub attribute_scalar : Scalar
attribute_scalar = record {
  shows = λ d c. attribute_of d ≡ Some c;
  tree = attribute_tree;
  norm = attribute_norm;
  is_null = λ c. false;
  stored = IsTree;
  plain = IsWholeTree;
  readable = λ c. ⊤;
}

unfoldable pub attribute_kind : Kind
attribute_kind = scalar attribute_scalar

abbrev pub attribute_cell : LogAttribute → Cell
attribute_cell a = tree_cell a.0
