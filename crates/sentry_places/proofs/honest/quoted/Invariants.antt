use Rattle.std.proofs.Common.{◌≡◌, ◌∷◌, ◌++◌, length}
use Rattle.sentry_places.specs.Honest.{quoted_bytes}
use Rattle.sentry_places.proofs.honest.quoted.Given as goal

-- what stands in the text, and what the bytes left put behind it, is the whole
abbrev pub invariant-loop-byte : goal.invariant-loop-byte
invariant-loop-byte l = l.text.items ++ quoted_bytes l.left ≡ 34 ∷ quoted_bytes l.json

abbrev pub decreases-loop-byte : goal.decreases-loop-byte
decreases-loop-byte l = length l.left
