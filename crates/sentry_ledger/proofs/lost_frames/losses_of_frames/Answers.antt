use Rattle.sentry_ledger.proofs.LostFrames.{all_next}
use Rattle.sentry_ledger.proofs.lost_frames.losses_of_frames.Goals as goal

pub loop-frame-preserved : goal.loop-frame-preserved
loop-frame-preserved c =
    let (more, parts, are) = c.in_ok-push_frame.ensures in
    all_next _ _ c.frame-item.result _ more _ c.loop-frame-test.true c.frame-item.is c.loop-frame.invariant are parts
