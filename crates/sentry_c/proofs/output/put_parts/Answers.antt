use Rattle.std.proofs.Common.{arith}
use Rattle.sentry_c.proofs.Rooms.{put_step}
use Rattle.sentry_c.proofs.output.put_parts.Goals as goal

pub loop-part-preserved : goal.loop-part-preserved
loop-part-preserved c = put_step _ _ _ _ _ _ _ _ c.loop-part-test.true c.copy_from_slice.ensures.after (omega arith) c.loop-part.invariant
