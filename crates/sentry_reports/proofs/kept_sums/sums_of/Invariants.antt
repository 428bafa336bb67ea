use Rattle.std.proofs.Common.{take}
use Rattle.sentry_reports.specs.ReportSums.{KeepsSums}
use Rattle.sentry_reports.proofs.kept_sums.sums_of.Given as goal

-- the sums are those of the items so far
abbrev pub invariant-loop-item : goal.invariant-loop-item
invariant-loop-item l = KeepsSums l.sums (take l.item-index l.items)
