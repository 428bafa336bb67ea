use Rattle.std.proofs.Common.{◌++◌}
use Rattle.sentry_items.specs.Texts.{bytes_of, parts_bytes}
use Rattle.sentry_items.proofs.Texts.{end_grows}
use Rattle.sentry_envelope.proofs.Sent.{attachment_sent, recording_sent, value_sent, container_sent}
use Rattle.sentry_envelope.proofs.write.write_item.Goals as goal

pub returns-in_ok-write_attachment_header-in-Attachment : goal.returns-in_ok-write_attachment_header-in-Attachment
returns-in_ok-write_attachment_header-in-Attachment c =
    let parts = parts_bytes c.args.text.now.parts.items in
    let end = c.args.text.now.end.items in
    attachment_sent c.end_frame.result c.args.item.now (parts ++ end) (parts ++ c.write_attachment_header.new.out.items) (bytes_of c.end_frame.new.text) c.in-Attachment.attachment c.in-Attachment.is
    (end_grows parts end c.write_attachment_header.new.out.items _ c.in_ok-write_attachment_header-in-Attachment.ensures.ok) (rw c.deref.ensures.value at c.end_frame.ensures)

pub returns-in_ok-write_short_header-in-ReplayRecording : goal.returns-in_ok-write_short_header-in-ReplayRecording
returns-in_ok-write_short_header-in-ReplayRecording c =
    let parts = parts_bytes c.args.text.now.parts.items in
    let end = c.args.text.now.end.items in
    let headed = c.write_short_header.new.out.items in
    let sent = c.end_frame-in-ReplayRecording in
    recording_sent sent.result c.args.item.now (parts ++ end) (parts ++ headed) (bytes_of sent.new.text) c.in-ReplayRecording.recording c.in-ReplayRecording.is
    (end_grows parts end headed _ (rw c.deref-in-ReplayRecording.ensures.value at c.in_ok-write_short_header-in-ReplayRecording.ensures.ok))
    (rw c.deref-in-ReplayRecording-2.ensures.value at sent.ensures)

pub returns-in_ok-write_container_header-in-ItemContainer : goal.returns-in_ok-write_container_header-in-ItemContainer
returns-in_ok-write_container_header-in-ItemContainer c =
    let parts = parts_bytes c.args.text.now.parts.items in
    let end = c.args.text.now.end.items in
    let headed = c.write_container_header.new.out.items in
    container_sent c.take_frame.result c.in-ItemContainer.container c.args.item.now (parts ++ end) (parts ++ headed) (bytes_of c.take_frame.new.text) c.build_payload.new.payload.items c.in-ItemContainer.is
    c.in_ok-build_payload-in-ItemContainer.ensures
    (end_grows parts end headed _ c.in_ok-write_container_header-in-ItemContainer.ensures.ok)
    c.take_frame.ensures

pub returns-in_default : goal.returns-in_default
returns-in_default c =
    value_sent c.write_value.result c.args.item.now (bytes_of c.args.text.now) (bytes_of c.write_value.new.text) c.in_default.not-Attachment c.in_default.not-ReplayRecording c.in_default.not-ItemContainer c.write_value.ensures
