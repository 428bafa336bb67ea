use Rattle.std.proofs.Common.{append_assoc}
use Rattle.sentry_items.specs.Attached.{attachment_text}
use Rattle.sentry_items.specs.HeaderText.{header_text}
use Rattle.sentry_items.proofs.attachment.Attachment.header_line.Goals as goal

pub returns : goal.returns
unfolding attachment_text header_text
returns c = rw (c.in_ok-push.ensures.items, c.in_ok-write_attachment_header.ensures.ok, c.in_ok-line.ensures.items) (simp append_assoc)
