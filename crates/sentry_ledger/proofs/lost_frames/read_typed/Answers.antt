use Rattle.sentry_forward.specs.View.{any_frame}
use Rattle.sentry_envelope.proofs.FrameItems.{fault_refuses}
use Rattle.sentry_ledger.proofs.lost_frames.read_typed.Goals as goal

pub returns-in-Err-clause-refused : goal.returns-in-Err-clause-refused
returns-in-Err-clause-refused c = λ is. fault_refuses (any_frame c.args.frame.now) c.in-Err.error (c.in-Err.ensures.fault (rw is at c.refused_item.ensures.refused))
