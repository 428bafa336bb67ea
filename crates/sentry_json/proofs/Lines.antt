-- What a line is read as, and that a written line is read.
use Rattle.std.proofs.Common.{◌≡◌, ◌≤◌, ◌↔◌, ℕ, List, Bool, true, false, cond, Option, Some, None, option_and_then, IsUtf8, true≢false, refl, sym, ap, ◌∙◌, subst}
use Rattle.std.proofs.lemmas.Option.{none-some, same_Some}
use Rattle.std.proofs.lemmas.Str.{IsUtf8-from_is_utf8, is_utf8-from_IsUtf8}
use Rattle.std.specs.Str.{is_utf8}
use Rattle.serde_json.specs.Data.{Data, depth}
use Rattle.serde_json.specs.Read.{read}
use Rattle.serde_json.specs.Written.{compact_text, has_float}
use Rattle.serde_json.proofs.Nesting.{depth-read}
use Rattle.sentry_json.specs.Line.{unless_float, tree_of}
use Rattle.sentry_json.specs.Sound.{IsSound}
use Rattle.sentry_json.proofs.Bytes.{IsUtf8-compact_text}
use Rattle.sentry_json.proofs.ReadBack.{read_back}
use Rattle.sentry_json.proofs.Regular.{read_regular}
use Rattle.sentry_json.proofs.Sound.{sound_without_float, regular_sound}
use Rattle.sentry_json.proofs.Texts.{read_texts}

-- the three facts that `tree_of` tests
abbrev ReadsAs : List ℕ → Data → Type 0
ReadsAs line d = IsUtf8 line × (read line ≡ Some d) × (has_float d ≡ false)

without_float : (f : Bool) (a d : Data) → has_float a ≡ f → cond f None (Some a) ≡ Some d → (Some a ≡ Some d) × (has_float d ≡ false)
without_float true a d is e = absurd (none-some d e)
without_float false a d is e = (e, subst (λ t. has_float t ≡ false) (same_Some a d e) is)

read_without_float : (o : Option Data) (d : Data) → option_and_then unless_float o ≡ Some d → (o ≡ Some d) × (has_float d ≡ false)
read_without_float None d e = absurd (none-some d e)
read_without_float (Some a) d e = without_float (has_float a) a d refl e

if_text : (b : Bool) (line : List ℕ) (d : Data) → is_utf8 line ≡ b → cond b (option_and_then unless_float (read line)) None ≡ Some d → ReadsAs line d
if_text true line d is e = let p = read_without_float (read line) d e in (IsUtf8-from_is_utf8 line is, p.0, p.1)
if_text false line d is e = absurd (none-some d e)

-- the line is UTF-8 and is read, and the tree has no float
pub tree_of_parts : (line : List ℕ) (d : Data) → tree_of line ≡ Some d → IsUtf8 line × (read line ≡ Some d) × (has_float d ≡ false)
unfolding tree_of
tree_of_parts line d e = if_text (is_utf8 line) line d refl e

pub tree_of_from : (line : List ℕ) (d : Data) → IsUtf8 line → read line ≡ Some d → has_float d ≡ false → tree_of line ≡ Some d
unfolding tree_of
tree_of_from line d u e whole = rw (is_utf8-from_IsUtf8 line u, e, whole) refl

-- a line whose tree would have a float has none
pub tree_of_none : (line : List ℕ) (d : Data) → read line ≡ Some d → has_float d ≡ true → tree_of line ≡ None
unfolding tree_of
tree_of_none line d e float = never (is_utf8 line) (option_and_then unless_float (read line)) (ap (option_and_then unless_float) e ∙ refused (has_float d) float)
  where
    refused : (b : Bool) → b ≡ true → cond b None (Some d) ≡ None
    refused true is = refl
    refused false is = absurd (true≢false (sym is))

    never : (b : Bool) (o : Option Data) → o ≡ None → cond b o None ≡ None
    never true o is = is
    never false o is = refl

pub tree_of_sound : (line : List ℕ) (d : Data) → tree_of line ≡ Some d → IsSound d
tree_of_sound line d e = let p = tree_of_parts line d e in regular_sound d (read_regular line d p.1) p.2 (read_texts line d p.0 p.1)

pub tree_of_depth : (line : List ℕ) (d : Data) → tree_of line ≡ Some d → depth d ≤ 127
tree_of_depth line d e = depth-read line d (tree_of_parts line d e).1

pub tree_of_written : (d : Data) → IsSound d → depth d ≤ 127 → tree_of (compact_text d) ≡ Some d
tree_of_written d h shallow = tree_of_from (compact_text d) d (IsUtf8-compact_text d h) (read_back d h shallow) (sound_without_float d h)

-- what was read can be written, and is read again
pub tree_of_again : (line : List ℕ) (d : Data) → tree_of line ≡ Some d → tree_of (compact_text d) ≡ Some d
tree_of_again line d e = tree_of_written d (tree_of_sound line d e) (tree_of_depth line d e)

pub tree_of_is : (line : List ℕ) (d : Data) → (tree_of line ≡ Some d) ↔ (IsUtf8 line × (read line ≡ Some d) × (has_float d ≡ false))
tree_of_is line d = (tree_of_parts line d, λ p. tree_of_from line d p.0 p.1 p.2)

pub ruleset what_a_line_is_read_as = (tree_of_sound, tree_of_depth, tree_of_again)
