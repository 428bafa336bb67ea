-- Text for a terminal.
use Rattle.std.specs.Prelude.{◌≡◌, ◌<◌, ◌≤◌, ◌⊎◌, Bool, true, false, ℕ, List, ◌∷◌, [], ◌++◌, unwrap_or, sum_by, flat_map, encode_utf8_all}
use Rattle.std.specs.Char.{is_control}
use Rattle.std.specs.List.{All}
use Rattle.unicode_width.specs.Width.{char_width}
use Rattle.sentry_show.specs.declared.screen.Tone.{Tone}
use Rattle.sentry_show.specs.declared.screen.Tone.TheVariants as tones

-- the columns of a character, 0 for one that takes none
abbrev pub columns_of : ℕ → ℕ
columns_of c = unwrap_or (char_width false c) 0

-- no control character, and one that takes a column or more
pub record IsVisible (c : ℕ) : Type 0 where
  pub no_control : is_control c ≡ false
  pub takes_some : 0 < columns_of c

-- a line of visible characters, which take at most so many columns together
pub record IsLine (most : ℕ) (line : List ℕ) : Type 0 where
  pub visible : All IsVisible line
  pub fits : sum_by columns_of line ≤ most

-- a line of this many columns, at most so many, comes behind what was there
pub record PushesLine (most columns : ℕ) (old new : List ℕ) : Type 0 where
  pub line : List ℕ
  pub is_line : IsLine most line
  pub columns_are : sum_by columns_of line ≡ columns
  pub behind : new ≡ old ++ encode_utf8_all line

abbrev pub line_feed : List ℕ
line_feed = 10 ∷ []

-- ---- colours, by the sequences that ECMA-48 names SGR

-- bold, green, red, and none
abbrev pub tone_text : Tone → List ℕ
tone_text tones.Plain = []
tone_text tones.Heading = 27 ∷ 91 ∷ 49 ∷ 109 ∷ []
tone_text tones.Good = 27 ∷ 91 ∷ 51 ∷ 50 ∷ 109 ∷ []
tone_text tones.Bad = 27 ∷ 91 ∷ 51 ∷ 49 ∷ 109 ∷ []

-- what ends them
abbrev pub reset : List ℕ
reset = 27 ∷ 91 ∷ 48 ∷ 109 ∷ []

-- a line of at most so many columns as it is printed: alone, or where colours are allowed in a tone
pub record IsPrinted (colors : Bool) (most : ℕ) (printed : List ℕ) : Type 0 where
  pub line : List ℕ
  pub is_line : IsLine most line
  pub spelled : (printed ≡ encode_utf8_all line) ⊎ ((colors ≡ true) × ((tone : Tone) × (printed ≡ tone_text tone ++ encode_utf8_all line ++ reset)))

-- lines that are printed, with a line feed behind each
pub record IsPage (colors : Bool) (most : ℕ) (text : List ℕ) : Type 0 where
  pub lines : List (List ℕ)
  pub each : All (IsPrinted colors most) lines
  pub spelled : text ≡ flat_map (λ line. line ++ line_feed) lines
