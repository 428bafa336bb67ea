use Rattle.sentry_items.specs.View.{attachment_view}
use Rattle.sentry_items.proofs.Made.{parts_made}
use Rattle.sentry_items.proofs.attachment.Attachment.remake.Goals as goal

pub returns : goal.returns
returns c =
    parts_made c.args.way (attachment_view c.args.self.now)
    (attachment_view (record {
      buffer = c.in_ok-copy_bytes.field-0;
      filename = c.in_ok-clone.field-0;
      content_type = c.in_ok-remake_content_type.field-0;
      ty = c.in_ok-remake_type.field-0;
    }))
    c.in_ok-copy_bytes.ensures c.in_ok-clone.ensures.cases c.in_ok-remake_content_type.ensures c.in_ok-remake_type.ensures
