use Rattle.std.proofs.Common.{◌++◌, codes, ap, ◌∙◌}
use Rattle.sentry_framing.specs.HeaderView.{header_view}
use Rattle.sentry_items.specs.Attached.{attachment_header}
use Rattle.sentry_items.specs.HeaderText.{header_text}
use Rattle.sentry_items.specs.Texts.{bytes_of, parts_bytes}
use Rattle.sentry_items.proofs.Texts.{end_grows}
use Rattle.sentry_envelope.specs.Envelope.{attached_by}
use Rattle.sentry_envelope.proofs.Sent.{ended}
use Rattle.sentry_envelope.proofs.rewrite.pass_attachment.Goals as goal

pub returns : goal.returns
returns c =
    let parts = parts_bytes c.args.text.now.parts.items in
    let end = c.args.text.now.end.items in
    let headed = c.write_attached_header.new.out.items in
    ended c.end_frame.result (parts ++ end) (parts ++ headed) (bytes_of c.end_frame.new.text) (header_text (attachment_header (codes "attachment") (attached_by (header_view c.args.header.now) c.args.payload.now))) c.args.payload.now
    (end_grows parts end headed _ (c.in_ok-write_attached_header.ensures.ok ∙ ap (λ a. end ++ header_text (attachment_header (codes "attachment") (record a { buffer = c.args.payload.now }))) c.in_ok-attached.ensures)) c.end_frame.ensures
