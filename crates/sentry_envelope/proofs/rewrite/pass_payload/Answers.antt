use Rattle.std.proofs.Common.{subst, sym}
use Rattle.sentry_framing.specs.declared.kind.ItemKind.TheVariants as kinds
use Rattle.sentry_items.specs.View.{payload_kind}
use Rattle.sentry_moments.specs.Moments.{moment_cell}
use Rattle.sentry_envelope.specs.NormalText.{PassesValue}
use Rattle.sentry_envelope.specs.SentryProfile.{gives_of}
use Rattle.sentry_envelope.proofs.Rewriting.{passes_timeless, passes_value}
use Rattle.sentry_envelope.proofs.rewrite.pass_payload.Goals as goal

pub returns-in-SessionUpdate : goal.returns-in-SessionUpdate
returns-in-SessionUpdate g c =
    let p = c.pass_at in
    let now = moment_cell c.args.now in
    subst (λ k. PassesValue (gives_of k) now (payload_kind k) c.args.line.now p.result c.args.id.now c.args.id.now c.args.out.now p.new.out) (sym c.in-SessionUpdate.is)
    (passes_value now (payload_kind kinds.SessionUpdate) c.args.line.now p.result c.args.id.now c.args.out.now p.new.out p.ensures)

pub returns-in-ClientReport : goal.returns-in-ClientReport
returns-in-ClientReport g c =
    let p = c.pass_at-in-ClientReport in
    let now = moment_cell c.args.now in
    subst (λ k. PassesValue (gives_of k) now (payload_kind k) c.args.line.now p.result c.args.id.now c.args.id.now c.args.out.now p.new.out) (sym c.in-ClientReport.is)
    (passes_value now (payload_kind kinds.ClientReport) c.args.line.now p.result c.args.id.now c.args.out.now p.new.out p.ensures)

pub returns-in-SessionAggregates : goal.returns-in-SessionAggregates
returns-in-SessionAggregates g c =
    let p = c.pass in
    let now = moment_cell c.args.now in
    subst (λ k. PassesValue (gives_of k) now (payload_kind k) c.args.line.now p.result c.args.id.now c.args.id.now c.args.out.now p.new.out) (sym c.in-SessionAggregates.is)
    (passes_timeless now (payload_kind kinds.SessionAggregates) c.args.line.now p.result c.args.id.now c.args.out.now p.new.out p.ensures)

pub returns-in-MonitorCheckIn : goal.returns-in-MonitorCheckIn
returns-in-MonitorCheckIn g c =
    let p = c.pass-in-MonitorCheckIn in
    let now = moment_cell c.args.now in
    subst (λ k. PassesValue (gives_of k) now (payload_kind k) c.args.line.now p.result c.args.id.now c.args.id.now c.args.out.now p.new.out) (sym c.in-MonitorCheckIn.is)
    (passes_timeless now (payload_kind kinds.MonitorCheckIn) c.args.line.now p.result c.args.id.now c.args.out.now p.new.out p.ensures)

pub returns-in-UserReport : goal.returns-in-UserReport
returns-in-UserReport g c =
    let p = c.pass-in-UserReport in
    let now = moment_cell c.args.now in
    subst (λ k. PassesValue (gives_of k) now (payload_kind k) c.args.line.now p.result c.args.id.now c.args.id.now c.args.out.now p.new.out) (sym c.in-UserReport.is)
    (passes_timeless now (payload_kind kinds.UserReport) c.args.line.now p.result c.args.id.now c.args.out.now p.new.out p.ensures)
