use Rattle.std.proofs.Common.{arith, rules, ◌≡◌, ap, ◌∙◌}
use Rattle.sentry_reports.specs.ReportSums.{pair_place, report_sum}
use Rattle.sentry_ledger.specs.Held.{held_in, items_held}
use Rattle.sentry_ledger.proofs.HeldLemmas.{sum_held}
use Rattle.sentry_ledger.proofs.held_row.report_items.Goals as goal

pub returns-clause-sums : goal.returns-clause-sums
unfolding items_held
returns-clause-sums c = λ category reason.
    let is : c.push_categories.new.items.items ≡ items_held (held_in c.args.row.now) = search rules in
    ap (report_sum category reason) is ∙ sum_held (held_in c.args.row.now) category reason (omega (arith, c.type_inv.row (pair_place category reason)))
