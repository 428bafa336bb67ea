use Rattle.std.proofs.Common.{◌++◌, Ok}
use Rattle.sentry_framing.specs.View.{frame_of}
use Rattle.sentry_items.specs.Texts.{bytes_of, parts_bytes}
use Rattle.sentry_items.proofs.Texts.{end_grows}
use Rattle.sentry_moments.specs.Moments.{moment_cell}
use Rattle.sentry_envelope.proofs.Rewriting.{value_not_written, value_written}
use Rattle.sentry_envelope.proofs.rewrite.pass_value.Goals as goal

pub returns-in-Err-clause-err : goal.returns-in-Err-clause-err
returns-in-Err-clause-err g c =
    let r = c.requires in
    value_not_written (frame_of c.args.frame.now) c.args.kind r.no_attachment r.no_recording r.no_logs r.no_metrics r.of_kind (moment_cell c.args.now) c.in-Err.error c.payload_error.result
    c.in-Err.ensures c.payload_error.ensures.misfit c.payload_error.ensures.memory

pub returns-clause-ok : goal.returns-clause-ok
returns-clause-ok g c =
    let r = c.requires in
    let parts = parts_bytes c.args.text.now.parts.items in
    let end = c.args.text.now.end.items in
    let headed = c.write_short_header.new.out.items in
    value_written {E = Unit {0}} (Ok tt) (frame_of c.args.frame.now) c.args.kind r.no_attachment r.no_recording r.no_logs r.no_metrics r.of_kind c.args.now c.args.id.now c.pass_payload.new.id
    c.in_ok-out.out c.pass_payload.new.out (parts ++ end) (parts ++ headed) (bytes_of c.take_frame.new.text) c.into_inner.result.items
    c.in-Ok.ensures c.in_ok-out.ensures.before c.in_ok-out.ensures.tokens c.into_inner.ensures.items
    (end_grows parts end headed _ (rw (c.deref.ensures.value, c.as_str.ensures) at c.in_ok-write_short_header.ensures.ok)) c.in_ok-take_frame.ensures
