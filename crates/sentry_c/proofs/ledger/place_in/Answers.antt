use Rattle.std.proofs.Common.{sym}
use Rattle.sentry_c.proofs.Rows.{category_number, reason_number}
use Rattle.sentry_c.proofs.ledger.place_in.Goals as goal

pub returns-clause-found : goal.returns-clause-found
returns-clause-found c = (
  c.in_ok-category.category,
  c.in_ok-reason.reason,
  record {
    category_is = category_number c.args.category c.in_ok-category.category (sym c.in_ok-category.ensures);
    reason_is = reason_number c.args.reason c.in_ok-reason.reason (sym c.in_ok-reason.ensures);
  },
  c.pair_place.ensures.same,
)
