-- The words of a call of the program: `-k` or not, then `-f` and a path or not, then words that
-- name kinds.
use Rattle.std.specs.Prelude.{◌≡◌, ℕ, Bool, true, false, List, [], ◌∷◌, ◌++◌, Option, Some, None, map, codes}
use Rattle.sentry_framing.specs.declared.kind.ItemKind.{ItemKind}
use Rattle.sentry_framing.specs.ItemWords.{kind_of_word}

-- the word by which the headers are kept
abbrev pub keep_words : Bool → List (List ℕ)
keep_words true = codes "-k" ∷ []
keep_words false = []

-- the words by which a file is read in place of standard input
abbrev pub path_words : Option (List ℕ) → List (List ℕ)
path_words (Some path) = codes "-f" ∷ path ∷ []
path_words None = []

-- by the table the words name these kinds, one each
abbrev pub NameKinds : List (List ℕ) → List ItemKind → Type 0
NameKinds words kinds = map kind_of_word words ≡ map Some kinds

-- the words are a call with these meanings
pub record IsCall (words : List (List ℕ)) (keep_headers : Bool) (path : Option (List ℕ)) (kinds : List ItemKind) : Type 0 where
  pub names : List (List ℕ)
  pub spelled : words ≡ keep_words keep_headers ++ (path_words path ++ names)
  pub named : NameKinds names kinds
