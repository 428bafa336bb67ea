use Rattle.std.proofs.Common.{refl}
use Rattle.sentry_event.specs.Transactions.{transaction_fields}
use Rattle.sentry_event.proofs.transaction.TransactionTable.rows.Goals as goal

pub returns : goal.returns
unfolding transaction_fields
returns g c = (_, c.unless_usual_as.ensures, (_, c.optional.ensures, (_, c.drawn_as.ensures, (_, c.map.ensures, (_, c.text_unless.ensures, (_, c.optional-2.ensures, (_, c.optional-3.ensures, (_, c.optional-4.ensures, (_, c.optional-5.ensures, (_, c.required.ensures, (_, c.at_once_as.ensures, (_, c.map-2.ensures, (_, c.optional_strict_as.ensures, (_, c.optional-6.ensures, (_, c.optional-7.ensures, refl)))))))))))))))
