-- The laws of a kind.
use Rattle.std.specs.Prelude.{◌≡◌, ◌≤◌, ◌⊎◌, ◌↔◌, ℕ, List, Some}
use Rattle.serde_json.specs.Data.{Data, depth}
use Rattle.serde_json.specs.Written.{compact_text}
use Rattle.sentry_json.specs.Sound.{IsSound}
use Rattle.sentry_json.specs.Line.{tree_of}
use Rattle.sentry_tables.specs.Cell.{Cell}
use Rattle.sentry_tables.specs.Kind.{Kind}
use Rattle.sentry_tables.specs.Shows.{Shows}
use Rattle.sentry_tables.specs.Norm.{norm}
use Rattle.sentry_tables.specs.Written.{tree}
use Rattle.sentry_tables.specs.Meets.{IsPlain, IsReadable, IsStored}
use Rattle.sentry_tables.specs.Lawful.{IsMoment}
use Rattle.sentry_tables.specs.Drawn.{NothingDrawn, NothingDrawnInText}

-- ---- of trees

-- At every moment the written tree of a stored, plain and readable value shows its normal form, and
-- nothing else.
abbrev pub ReadsBack : Kind → Type 0
ReadsBack K = (c now : Cell) → IsStored K c → IsPlain K c → IsReadable K c
    → Shows K now (tree K c) (norm K c) × ((x : Cell) → Shows K now (tree K c) x → x ≡ norm K c)

-- The normal form is its own normal form, is stored and plain, is readable where the value is, and
-- its tree nests no deeper.
pub record IsStableAt (K : Kind) (c : Cell) : Type 0 where
  pub again : norm K (norm K c) ≡ norm K c
  pub stored : IsStored K (norm K c)
  pub plain : IsPlain K (norm K c)
  pub readable : IsReadable K c → IsReadable K (norm K c)
  pub depth : depth (tree K (norm K c)) ≤ depth (tree K c)

abbrev pub IsStable : Kind → Type 0
IsStable K = (c : Cell) → IsStored K c → IsPlain K c → IsStableAt K c

-- Two values share the normal form exactly where those are written alike.
abbrev pub HasOneForm : Kind → Type 0
HasOneForm K = (a b : Cell) → IsStored K a → IsPlain K a → IsReadable K a → IsStored K b → IsPlain K b → IsReadable K b
    → (norm K a ≡ norm K b) ↔ (tree K (norm K a) ≡ tree K (norm K b))

-- What any tree shows is stored and plain, and is written as its normal form is.
abbrev pub IsRewritten : Kind → Type 0
IsRewritten K = (d : Data) (c now : Cell) → IsSound d → IsMoment now → Shows K now d c → IsStored K c × IsPlain K c × (tree K c ≡ tree K (norm K c))

-- Either some value is shown, or none is.
abbrev pub IsDecided : Kind → Type 0
IsDecided K = (d : Data) (now : Cell) → ((c : Cell) × Shows K now d c) ⊎ ((c : Cell) → Shows K now d c → ⊥)

-- A tree that shows a value at one moment shows one at any.
abbrev pub IsTimeless : Kind → Type 0
IsTimeless K = (d : Data) (now later c : Cell) → Shows K now d c → (x : Cell) × Shows K later d x

-- What can be written can be printed and read.
abbrev pub IsWritten : Kind → Type 0
IsWritten K = (c : Cell) → IsStored K c → IsPlain K c → IsSound (tree K c)

-- At each moment a tree in which nothing is drawn shows at most one value.
abbrev pub ShowsOne : Kind → Type 0
ShowsOne K = (now : Cell) (d : Data) (c x : Cell) → NothingDrawn K d → Shows K now d c → Shows K now d x → c ≡ x

-- Nothing is drawn of the written tree of a stored, plain value.
abbrev pub WrittenDrawsNothing : Kind → Type 0
WrittenDrawsNothing K = (c : Cell) → IsStored K c → IsPlain K c → NothingDrawn K (tree K c)

-- What any tree shows is readable.
abbrev pub ShownReadable : Kind → Type 0
ShownReadable K = (d : Data) (c now : Cell) → IsSound d → IsMoment now → Shows K now d c → IsReadable K c

-- ---- of lines of text

-- the line is a tree that shows the value
abbrev pub TextShows : Kind → Cell → List ℕ → Cell → Type 0
TextShows K now line c = (d : Data) × (tree_of line ≡ Some d) × Shows K now d c

-- The same of the written text, where its tree isn't too deep to be read.
abbrev pub ReadsBackText : Kind → Type 0
ReadsBackText K = (c now : Cell) → IsStored K c → IsPlain K c → IsReadable K c → depth (tree K c) ≤ 127
    → TextShows K now (compact_text (tree K c)) (norm K c) × ((x : Cell) → TextShows K now (compact_text (tree K c)) x → x ≡ norm K c)

-- Two values share the normal form exactly where their normal forms have one text.
abbrev pub HasOneText : Kind → Type 0
HasOneText K = (a b : Cell) → IsStored K a → IsPlain K a → IsReadable K a → IsStored K b → IsPlain K b → IsReadable K b
    → (norm K a ≡ norm K b) ↔ (compact_text (tree K (norm K a)) ≡ compact_text (tree K (norm K b)))

-- What a line shows is stored and plain, and is written as its normal form is.
abbrev pub IsRewrittenText : Kind → Type 0
IsRewrittenText K = (line : List ℕ) (c now : Cell) → IsMoment now → TextShows K now line c → IsStored K c × IsPlain K c × (tree K c ≡ tree K (norm K c))

-- Either the line shows some value, or it shows none.
abbrev pub IsDecidedText : Kind → Type 0
IsDecidedText K = (line : List ℕ) (now : Cell) → ((c : Cell) × TextShows K now line c) ⊎ ((c : Cell) → TextShows K now line c → ⊥)

-- A line that shows a value at one moment shows one at any.
abbrev pub IsTimelessText : Kind → Type 0
IsTimelessText K = (line : List ℕ) (now later c : Cell) → TextShows K now line c → (x : Cell) × TextShows K later line x

-- At each moment a line in which nothing is drawn shows at most one value.
abbrev pub TextShowsOne : Kind → Type 0
TextShowsOne K = (now : Cell) (line : List ℕ) (c x : Cell) → NothingDrawnInText K line → TextShows K now line c → TextShows K now line x → c ≡ x

-- Nothing is drawn of the written text of a stored, plain value, where its tree isn't too deep to
-- be read.
abbrev pub TextDrawsNothing : Kind → Type 0
TextDrawsNothing K = (c : Cell) → IsStored K c → IsPlain K c → depth (tree K c) ≤ 127 → NothingDrawnInText K (compact_text (tree K c))

-- What a line shows is readable.
abbrev pub TextShownReadable : Kind → Type 0
TextShownReadable K = (line : List ℕ) (c now : Cell) → IsMoment now → TextShows K now line c → IsReadable K c

-- ---- all of them

-- What each lawful kind has.
pub record HasLaws (K : Kind) : Type 0 where
  pub back : ReadsBack K
  pub stable : IsStable K
  pub one_form : HasOneForm K
  pub rewritten : IsRewritten K
  pub decided : IsDecided K
  pub timeless : IsTimeless K
  pub written : IsWritten K
  pub single : ShowsOne K
  pub undrawn : WrittenDrawsNothing K
  pub shown_readable : ShownReadable K
  pub text_back : ReadsBackText K
  pub one_text : HasOneText K
  pub text_rewritten : IsRewrittenText K
  pub text_decided : IsDecidedText K
  pub text_timeless : IsTimelessText K
  pub text_single : TextShowsOne K
  pub text_undrawn : TextDrawsNothing K
  pub text_shown_readable : TextShownReadable K
