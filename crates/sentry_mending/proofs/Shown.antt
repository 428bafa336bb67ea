-- Bytes that are shown as text.
use Rattle.std.proofs.Common.{◌≡◌, ℕ, List, codes}
use Rattle.std.specs.Str.{IsUtf8, is_utf8}
use Rattle.std.proofs.lemmas.Bool.{false_from_ne_true}
use Rattle.std.proofs.lemmas.Str.{IsUtf8-from_is_utf8, is_utf8-from_IsUtf8}
use Rattle.sentry_mending.specs.FaultTrees.{shown_text}

pub shown_as_text : (bytes : List ℕ) → IsUtf8 bytes → shown_text bytes ≡ bytes
unfolding shown_text
shown_as_text bytes utf8 = rw (is_utf8-from_IsUtf8 bytes utf8)

pub shown_as_mark : (bytes : List ℕ) → ¬ IsUtf8 bytes → shown_text bytes ≡ codes "?"
unfolding shown_text
shown_as_mark bytes other = rw (false_from_ne_true _ (λ e. other (IsUtf8-from_is_utf8 bytes e)))
