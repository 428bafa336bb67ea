-- The trees of lines, and what headers say by them.
use Rattle.std.proofs.Common.{◌≡◌, ℕ, List, Option, Some, None, option_and_then, inl, inr, ◌∙◌, ap}
use Rattle.std.specs.Str.{IsUtf8, is_utf8}
use Rattle.std.proofs.lemmas.Bool.{cases_Bool}
use Rattle.std.proofs.lemmas.Str.{IsUtf8-from_is_utf8, is_utf8-from_IsUtf8}
use Rattle.serde_json.specs.Data.{Data}
use Rattle.serde_json.specs.Read.{read}
use Rattle.sentry_json.specs.Line.{tree_of}
use Rattle.sentry_forward.specs.AnyHeader.{Typed, any_header, json_of, typed_of}
use Rattle.sentry_forward.proofs.Readings.{tree_is}

pub json_found : (line : List ℕ) (d : Data) → IsUtf8 line → read line ≡ Some d → json_of line ≡ Some d
unfolding json_of
json_found line d utf8 reads = rw (is_utf8-from_IsUtf8 line utf8, reads)

pub json_none : (line : List ℕ) → (IsUtf8 line → read line ≡ None) → json_of line ≡ None
unfolding json_of
json_none line none = elim (cases_Bool (is_utf8 line)) [
  | inl e ↦ let f : read line ≡ None = none (IsUtf8-from_is_utf8 line e) in rw (e, f)
  | inr e ↦ rw e
]

pub from_tree : (header : List ℕ) (d : Data) (t : Option Typed) → tree_of header ≡ Some d → typed_of d ≡ t → any_header header ≡ t
unfolding any_header
from_tree header d t tree is = ap (λ o. option_and_then typed_of o) (tree_is header d tree) ∙ is
