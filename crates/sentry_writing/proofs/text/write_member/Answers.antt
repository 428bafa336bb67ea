use Rattle.sentry_writing.proofs.Joining.{member_wrote}
use Rattle.sentry_writing.proofs.text.write_member.Goals as goal

pub returns : goal.returns
returns g c = member_wrote _ _ _ _ _ _ c.in_ok-key.ensures c.write.ensures
