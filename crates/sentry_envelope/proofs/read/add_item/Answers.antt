use Rattle.sentry_framing.specs.View.{frame_of}
use Rattle.sentry_moments.specs.Moments.{moment_cell}
use Rattle.sentry_envelope.proofs.ItemReads.{of_kind, attachment_added, recording_added}
use Rattle.sentry_envelope.proofs.read.add_item.Goals as goal

pub returns-in-Attachment-clause-ok : goal.returns-in-Attachment-clause-ok
returns-in-Attachment-clause-ok g c =
    attachment_added (frame_of c.args.frame.now) c.args.header.now c.requires c.in-Attachment.is (moment_cell c.args.now) c.args.items.now.items c.add_attachment.new.items.items c.add_attachment.result c.add_attachment.ensures.ok

pub returns-in-ReplayRecording-clause-ok : goal.returns-in-ReplayRecording-clause-ok
returns-in-ReplayRecording-clause-ok g c =
    recording_added (frame_of c.args.frame.now) c.args.header.now c.requires c.in-ReplayRecording.is (moment_cell c.args.now) c.args.items.now.items c.add_recording.new.items.items c.add_recording.result c.add_recording.ensures.ok

pub add_json_item-requires-clause-of_kind : goal.add_json_item-requires-clause-of_kind
add_json_item-requires-clause-of_kind g c = of_kind (frame_of c.args.frame.now) c.args.header.now c.requires
