-- Values that stand in a tree as texts.
use Rattle.std.specs.Prelude.{◌≡◌, ◌⊎◌, ◌≤◌, ℕ, List, length, false, Option, Some, None, option_map, [], Result, Ok, Err, IsUtf8, ⊤}
use Rattle.serde_json.specs.Data.{string}
use Rattle.serde_json.specs.Find.{as_str}
use Rattle.sentry_tables.specs.Cell.{Cell, text}
use Rattle.sentry_tables.specs.Kind.{Scalar, Kind, scalar}
use Rattle.sentry_tables.specs.Reading.{Only}
use Rattle.sentry_tables.specs.declared.error.TreeError.{TreeError}

pub record Spelling : Type 1 where
  -- the text spells the value
  pub spells : List ℕ → Cell → Type 0
  -- the written text
  pub written : Cell → List ℕ
  -- the normal form: what the written text spells
  pub norm : Cell → Cell
  -- what Rust's type holds of each of its values
  pub stored : Cell → Type 0
  -- its written text is read back, where that is not so of each value
  pub readable : Cell → Type 0

abbrev pub Texted : (List ℕ → Cell → Type 0) → Option (List ℕ) → Cell → Type 0
Texted spells None c = ⊥
Texted spells (Some s) c = spells s c

-- a tree that is a text shows what the text spells
abbrev pub spelled : Spelling → Scalar
spelled S = record {
  shows = λ d c. Texted S.spells (as_str d) c;
  tree = λ c. string (S.written c);
  norm = S.norm;
  is_null = λ c. false;
  stored = S.stored;
  plain = λ c. ⊤;
  readable = S.readable;
}

abbrev pub spelled_kind : Spelling → Kind
spelled_kind S = scalar (spelled S)

-- the room for the text of a value that keeps none of its own
abbrev pub FitsRoom : List ℕ → Type 0
FitsRoom s = length s ≤ 64

-- a text spells at most one value
abbrev pub SpellsOne : Spelling → Type 0
SpellsOne S = (s : List ℕ) (c x : Cell) → S.spells s c → S.spells s x → c ≡ x

-- What a spelling owes, of values that are stored.
pub record SpellingLaws (S : Spelling) : Type 0 where
  -- the written text spells the normal form, and so nothing else, since no text spells two values
  pub back : (c : Cell) → S.stored c → S.readable c → S.spells (S.written c) (S.norm c)
  pub one : SpellsOne S
  -- the normal form is its own, and is stored, and readable where the value is
  pub again : (c : Cell) → S.stored c → S.norm (S.norm c) ≡ S.norm c
  pub stored_norm : (c : Cell) → S.stored c → S.stored (S.norm c)
  pub readable_norm : (c : Cell) → S.stored c → S.readable c → S.readable (S.norm c)
  pub utf8 : (c : Cell) → S.stored c → IsUtf8 (S.written c)
  -- what is spelled is stored and readable, and is written as its normal form is
  pub spelled_stored : (s : List ℕ) (c : Cell) → IsUtf8 s → S.spells s c → S.stored c
  pub spelled_readable : (s : List ℕ) (c : Cell) → IsUtf8 s → S.spells s c → S.readable c
  pub spelled_written : (s : List ℕ) (c : Cell) → IsUtf8 s → S.spells s c → S.written c ≡ S.written (S.norm c)
  -- some value is spelled, or none is
  pub decide : (s : List ℕ) → ((c : Cell) × S.spells s c) ⊎ ((c : Cell) → S.spells s c → ⊥)

-- a spelling that is read by a function, with this normal form
abbrev pub read_to : (List ℕ → Option Cell) → (Cell → List ℕ) → (Cell → Cell) → (Cell → Type 0) → Spelling
read_to of_text to_text norm Stored =
    record { spells = λ s c. of_text s ≡ Some c; written = to_text; norm = norm; stored = Stored; readable = λ c. ⊤ }

-- one in which each value is its own normal form
abbrev pub read_as : (List ℕ → Option Cell) → (Cell → List ℕ) → (Cell → Type 0) → Spelling
read_as of_text to_text Stored = read_to of_text to_text (λ c. c) Stored

-- ---- enumerations: a variant's cell is its word

abbrev pub word_cell : {V : Type 0} → (V → List ℕ) → V → Cell
word_cell word v = text (word v)

abbrev pub IsWord : {V : Type 0} → (V → List ℕ) → Cell → Type 0
IsWord {V} word c = (v : V) × (text (word v) ≡ c)

abbrev pub word_of : Cell → List ℕ
word_of (text s) = s
word_of _ = []

-- each variant is written as its word, and is read from the words that the function lists
abbrev pub enumeration : {V : Type 0} → (List ℕ → Option V) → (V → List ℕ) → Spelling
enumeration lookup word = read_as (λ s. option_map (word_cell word) (lookup s)) word_of (IsWord word)

-- ---- what a reader of a text answers

abbrev pub ReadsSpelling : {A : Type 0} → Spelling → (A → Cell) → List ℕ → Result A TreeError → Type 0
ReadsSpelling S f s (Ok v) = S.spells s (f v)
ReadsSpelling S f s (Err e) = Only e ((c : Cell) → S.spells s c → ⊥)
