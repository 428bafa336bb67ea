use Rattle.std.proofs.Common.{List, map, refl, Some}
use Rattle.sentry_reports.specs.declared.reason.Reason.{Reason}
use Rattle.sentry_c.specs.Recording.{loss_in}
use Rattle.sentry_c.proofs.Refusals.{none_left, one_left}
use Rattle.sentry_c.proofs.recording.add_reasons.Goals as goal

pub loop-own-preserved : goal.loop-own-preserved
loop-own-preserved c = (
  c.add_loss.ensures.long,
  λ last refused more.
      c.loop-own.invariant.1 last refused
      (one_left (λ (left : List Reason). map (λ own. loss_in c.args.losses.now c.args.category (Some own)) left) c.loop-own.left.now c.in-Some.own.now c.in-Some.rest.now c.loop-own.ledger c.add_loss.new.ledger last c.args.reason c.loop-own.refused c.add_loss.new.refused refused _
      c.in-Some.ensures.cases.0 refl (rw c.loss_at.ensures at c.add_loss.ensures.recorded) more),
)

pub returns-clause-recorded : goal.returns-clause-recorded
returns-clause-recorded c =
    c.loop-own.invariant.1 c.loop-own.ledger c.loop-own.refused
    (none_left (λ (left : List Reason). map (λ own. loss_in c.args.losses.now c.args.category (Some own)) left) c.loop-own.left.now c.loop-own.ledger c.args.reason c.loop-own.refused refl c.in_default.ensures.cases)
