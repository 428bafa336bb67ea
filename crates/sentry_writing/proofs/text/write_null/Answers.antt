use Rattle.sentry_writing.proofs.Joining.{null_member_wrote}
use Rattle.sentry_writing.proofs.text.write_null.Goals as goal

pub returns : goal.returns
returns c = null_member_wrote _ _ _ _ _ c.in_ok-key.ensures c.null.ensures
