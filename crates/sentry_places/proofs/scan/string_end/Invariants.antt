use Rattle.std.proofs.Common.{length, ◌-◌}
use Rattle.sentry_places.proofs.scan.string_end.Given as goal

abbrev pub decreases-loop-i : goal.decreases-loop-i
decreases-loop-i l = length l.text - l.i
