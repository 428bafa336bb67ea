use Rattle.sentry_reports.proofs.ReportSums.{keeps_next}
use Rattle.sentry_reports.proofs.kept_sums.sums_of.Goals as goal

pub loop-item-preserved : goal.loop-item-preserved
loop-item-preserved c = keeps_next _ _ _ _ _ _ c.loop-item-test.true c.pair_place-place.ensures.same c.add_up.ensures c.loop-item.invariant
