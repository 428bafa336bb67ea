-- Members of a header that are strings and whole numbers. Only the crate's private clauses cite it.
use Rattle.std.specs.Prelude.{◌≡◌, ℕ, List, ◌++◌, ◌∷◌, Option, Some, codes, option_map}
use Rattle.std.specs.Str.{IsAscii}
use Rattle.json.specs.Print.{quoted}
use Rattle.json.specs.Tree.{HasNumbers, depth}
use Rattle.serde_json.specs.Data.{Data, Members, number, put, string, unsigned}
use Rattle.serde_json.specs.Find.{get_member}
use Rattle.serde_json.specs.Read.{of_json}
use Rattle.serde_json.specs.Written.{compact_text, outline}

-- the value nests nothing, and its text is ASCII and read as it
pub record IsScalar (value : Data) : Type 0 where
  pub numbers : HasNumbers (outline value)
  pub shallow : depth (outline value) ≡ 0
  pub read : of_json (outline value) ≡ Some value
  pub ascii : IsAscii (compact_text value)

-- the text of a scalar stands at the front, and `rest` follows
pub record BeginsScalar (bytes rest : List ℕ) : Type 0 where
  pub value : Data
  pub scalar : IsScalar value
  pub text : bytes ≡ compact_text value ++ rest

-- the members have this type, if any, and this length, if any
pub record HaveFields (members : Members) (word : Option (List ℕ)) (stated : Option ℕ) : Type 0 where
  pub type_is : get_member (codes "type") members ≡ option_map string word
  pub length_is : get_member (codes "length") members ≡ option_map (λ n. number (unsigned n)) stated

-- A member stands at the front, a scalar, and `rest` follows. Members of the first type and length
-- have the next ones behind it.
pub record AddsMember (bytes rest : List ℕ) (word next_word : Option (List ℕ)) (stated next_stated : Option ℕ) : Type 0 where
  pub key : List ℕ
  pub value : Data
  pub scalar : IsScalar value
  pub ascii : IsAscii (quoted key)
  pub text : bytes ≡ quoted key ++ 58 ∷ (compact_text value ++ rest)
  pub fields : (members : Members) → HaveFields members word stated → HaveFields (put key value members) next_word next_stated
