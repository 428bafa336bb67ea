use Rattle.std.proofs.Common.{length, ◌-◌, ◌≤◌}
use Rattle.sentry_json.specs.Digits.{AreFirst}
use Rattle.sentry_json.proofs.tape.number.leading_integer.Given as goal

abbrev pub invariant-loop-len : goal.invariant-loop-len
invariant-loop-len l = AreFirst l.bytes l.number l.len × (l.len ≤ 19)

abbrev pub decreases-loop-len : goal.decreases-loop-len
decreases-loop-len l = length l.bytes - l.len
