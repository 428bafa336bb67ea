use Rattle.sentry_items.proofs.Made.{media_type_there}
use Rattle.sentry_items.proofs.attachment.Attachment.remake_content_type.Goals as goal

pub returns-in_ok-clone-in-Some : goal.returns-in_ok-clone-in-Some
returns-in_ok-clone-in-Some c = media_type_there c.args.way c.args.self.now c.in-Some.text c.in_ok-clone-in-Some.field-0 c.in-Some.is c.in_ok-clone-in-Some.ensures.cases
