use Rattle.sentry_items.proofs.Made.{type_there}
use Rattle.sentry_items.proofs.attachment.Attachment.remake_type.Goals as goal

pub returns-in_ok-remake-in-Some : goal.returns-in_ok-remake-in-Some
returns-in_ok-remake-in-Some c = type_there c.args.way c.args.self.now c.in-Some.ty c.in_ok-remake-in-Some.field-0 c.in-Some.is c.in_ok-remake-in-Some.ensures
