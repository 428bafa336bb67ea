use Rattle.std.proofs.Common.{length, ◌-◌}
use Rattle.sentry_json.proofs.tape.number.float_len.Given as goal

abbrev pub decreases-loop-len : goal.decreases-loop-len
decreases-loop-len l = length l.bytes - l.len
