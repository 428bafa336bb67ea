use Rattle.std.proofs.Common.{◌≡◌, length}
use Rattle.sentry_keys.specs.DsnPath.{cut_front}
use Rattle.sentry_keys.proofs.dsn_path.without_front.Given as goal
use denote.Text.{Utf8}
use denote.Shadow.{shadow}

-- what is left has the same inside
abbrev pub invariant-loop-next : goal.invariant-loop-next
invariant-loop-next l = shadow (Utf8 l.rest) × (cut_front l.rest ≡ cut_front l.text)

abbrev pub decreases-loop-next : goal.decreases-loop-next
decreases-loop-next l = length l.rest
