use Rattle.sentry_ledger.proofs.DroppedFrames.{dropped_named}
use Rattle.sentry_ledger.proofs.forwarded.forward_recorded.Goals as goal

pub returns-in-Ok-record_frames-clause-named : goal.returns-in-Ok-record_frames-clause-named
returns-in-Ok-record_frames-clause-named g c = dropped_named _ _ _ _ _ c.in-Ok.forwarded c.in-Ok.ensures.forwarded
