use Rattle.std.proofs.Common.{arith, rules, refl, ap, ◌∙◌}
use Rattle.sentry_reports.specs.ReportSums.{pair_place}
use Rattle.sentry_ledger.specs.declared.steps.StepAnswer.TheVariants.{Accepted, Refused}
use Rattle.sentry_ledger.proofs.HistoryLemmas.{held_recorded, held_still}
use Rattle.sentry_c.proofs.Refusals.{records_one}
use Rattle.sentry_c.proofs.recording.add_loss.Goals as goal

pub returns-in-Some-clause-recorded : goal.returns-in-Some-clause-recorded
returns-in-Some-clause-recorded c =
    records_one c.args.ledger.now _ c.args.reason c.args.loss c.args.refused.now _ Accepted (search rules)
    (held_recorded c.args.ledger.now c.args.loss c.args.reason _ _ c.requires (c.pair_place-place.ensures.same ∙ ap (pair_place c.args.loss.category) c.unwrap_or.ensures) (omega (arith, c.in-Some.ensures))) refl

pub returns-in-None-clause-recorded : goal.returns-in-None-clause-recorded
returns-in-None-clause-recorded c =
    records_one c.args.ledger.now _ c.args.reason c.args.loss c.args.refused.now _ Refused (search rules) (held_still _ _ refl refl) c.saturating_add.ensures
