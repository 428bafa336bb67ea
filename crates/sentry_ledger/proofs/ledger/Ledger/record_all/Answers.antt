use Rattle.std.proofs.Common.{true, false, rules, ◌∙◌}
use Rattle.sentry_ledger.proofs.RecordedLosses.{records_none, records_next}
use Rattle.sentry_ledger.proofs.ledger.Ledger.record_all.Goals as goal
use Rattle.sentry_ledger.proofs.ledger.Ledger.record_all.Goals.{then-is_err, else-is_err}

pub loop-loss-init : goal.loop-loss-init
loop-loss-init c = records_none _ _

pub loop-loss-preserved : goal.loop-loss-preserved
loop-loss-preserved c = elim c.if-is_err.branch [
  | then-is_err w ↦ records_next _ _ _ _ _ _ _ _ _ c.record.result true w.if-is_err.ensures.value c.loop-loss-test.true (search rules) c.loop-loss.invariant c.record.ensures.answered c.record.ensures.held (w.refused-is ∙ w.saturating_add-refused.ensures)
  | else-is_err w ↦ records_next _ _ _ _ _ _ _ _ _ c.record.result false w.if-is_err.ensures.value c.loop-loss-test.true (search rules) c.loop-loss.invariant c.record.ensures.answered c.record.ensures.held w.refused-is
]
