use Rattle.std.proofs.Common.{◌≡◌, length}
use Rattle.sentry_places.specs.Honest.{key_from, last_key}
use Rattle.sentry_places.proofs.honest.last_key.Given as goal

-- what the bytes left make of the key is the path's last one
abbrev pub invariant-loop-byte : goal.invariant-loop-byte
invariant-loop-byte l = key_from l.key.items l.left ≡ last_key l.path

abbrev pub decreases-loop-byte : goal.decreases-loop-byte
decreases-loop-byte l = length l.left
