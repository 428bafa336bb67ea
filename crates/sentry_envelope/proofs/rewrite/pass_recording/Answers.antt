use Rattle.std.proofs.Common.{◌++◌, codes}
use Rattle.sentry_items.specs.Attached.{short_header}
use Rattle.sentry_items.specs.HeaderText.{header_text}
use Rattle.sentry_items.specs.Texts.{bytes_of, parts_bytes}
use Rattle.sentry_items.proofs.Texts.{end_grows}
use Rattle.sentry_envelope.proofs.Sent.{ended}
use Rattle.sentry_envelope.proofs.rewrite.pass_recording.Goals as goal

pub returns : goal.returns
returns c =
    let parts = parts_bytes c.args.text.now.parts.items in
    let end = c.args.text.now.end.items in
    let headed = c.write_short_header.new.out.items in
    ended c.end_frame.result (parts ++ end) (parts ++ headed) (bytes_of c.end_frame.new.text) (header_text (short_header (codes "replay_recording") c.args.payload.now)) c.args.payload.now
    (end_grows parts end headed _ c.in_ok-write_short_header.ensures.ok) c.end_frame.ensures
