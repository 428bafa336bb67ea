use Rattle.sentry_records.proofs.Attributes.{attribute_wrote}
use Rattle.sentry_records.proofs.log_attribute.LogAttributeMember.write.Goals as goal

pub returns : goal.returns
returns c = attribute_wrote _ _ _ _ _ _ c.in_ok-begin_object.ensures c.in_ok-write_members.ensures c.end_object.ensures
