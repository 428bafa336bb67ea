use Rattle.std.proofs.Common.{subst}
use Rattle.sentry_framing.specs.View.{frame_of}
use Rattle.sentry_framing.specs.declared.kind.ItemKind.TheVariants as kinds
use Rattle.sentry_items.specs.Containers.{container_kind}
use Rattle.sentry_items.specs.Texts.{bytes_of}
use Rattle.sentry_moments.specs.Moments.{moment_cell}
use Rattle.sentry_records.specs.Logs.{log_kind}
use Rattle.sentry_records.specs.Metrics.{metric_kind}
use Rattle.sentry_envelope.specs.ItemAdded.{IsOfKind, listed}
use Rattle.sentry_envelope.proofs.ItemReads.{of_kind}
use Rattle.sentry_envelope.proofs.Rewriting.{attachment_written, container_not_written, logs_written, metrics_written, recording_written}
use Rattle.sentry_envelope.proofs.rewrite.write_frame.Goals as goal

pub pass_value-requires : goal.pass_value-requires
pass_value-requires g c = record {
  of_kind = of_kind (frame_of c.args.frame.now) c.args.header.now c.requires;
  no_attachment = c.in_default.not-Attachment;
  no_recording = c.in_default.not-ReplayRecording;
  no_logs = c.in_default.not-Logs;
  no_metrics = c.in_default.not-Metrics;
}

pub returns-in_ok-pass_attachment-in-Attachment-clause-ok : goal.returns-in_ok-pass_attachment-in-Attachment-clause-ok
returns-in_ok-pass_attachment-in-Attachment-clause-ok g c =
    attachment_written (frame_of c.args.frame.now) c.args.header.now c.requires (moment_cell c.args.now) c.args.id.now (bytes_of c.args.text.now) (bytes_of c.pass_attachment.new.text) c.in-Attachment.is c.in_ok-pass_attachment-in-Attachment.ensures

pub returns-in_ok-pass_recording-in-ReplayRecording-clause-ok : goal.returns-in_ok-pass_recording-in-ReplayRecording-clause-ok
returns-in_ok-pass_recording-in-ReplayRecording-clause-ok g c =
    recording_written (frame_of c.args.frame.now) c.args.header.now c.requires (moment_cell c.args.now) c.args.id.now (bytes_of c.args.text.now) (bytes_of c.pass_recording.new.text) c.in-ReplayRecording.is c.in_ok-pass_recording-in-ReplayRecording.ensures

pub returns-in-Logs-clause-ok : goal.returns-in-Logs-clause-ok
returns-in-Logs-clause-ok g c =
    logs_written (frame_of c.args.frame.now) c.args.header.now c.requires c.args.now c.args.id.now (bytes_of c.args.text.now) (bytes_of c.pass_container.new.text) c.pass_container.result c.in-Logs.is c.pass_container.ensures.ok

pub returns-in-Logs-clause-err : goal.returns-in-Logs-clause-err
returns-in-Logs-clause-err g c =
    let frame = frame_of c.args.frame.now in
    container_not_written frame kinds.Logs (container_kind log_kind) (subst (IsOfKind frame) c.in-Logs.is (of_kind frame c.args.header.now c.requires)) listed c.pass_container.result c.pass_container.ensures.err

pub returns-in-Metrics-clause-ok : goal.returns-in-Metrics-clause-ok
returns-in-Metrics-clause-ok g c =
    let p = c.pass_container-in-Metrics in
    metrics_written (frame_of c.args.frame.now) c.args.header.now c.requires c.args.now c.args.id.now (bytes_of c.args.text.now) (bytes_of p.new.text) p.result c.in-Metrics.is p.ensures.ok

pub returns-in-Metrics-clause-err : goal.returns-in-Metrics-clause-err
returns-in-Metrics-clause-err g c =
    let frame = frame_of c.args.frame.now in
    let p = c.pass_container-in-Metrics in
    container_not_written frame kinds.Metrics (container_kind metric_kind) (subst (IsOfKind frame) c.in-Metrics.is (of_kind frame c.args.header.now c.requires)) listed p.result p.ensures.err
