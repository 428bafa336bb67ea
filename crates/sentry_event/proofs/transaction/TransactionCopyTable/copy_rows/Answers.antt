use Rattle.std.proofs.Common.{refl}
use Rattle.sentry_event.specs.Transactions.{transaction_fields}
use Rattle.sentry_event.proofs.transaction.TransactionCopyTable.copy_rows.Goals as goal

pub returns : goal.returns
unfolding transaction_fields
returns c = (_, c.in_ok-of_as.ensures, (_, c.optional.ensures, (_, c.plain_as.ensures, (_, c.in_ok-map.ensures, (_, c.cow.ensures, (_, c.optional-2.ensures, (_, c.optional-3.ensures, (_, c.optional-4.ensures, (_, c.optional-5.ensures, (_, c.list.ensures, (_, c.plain_as-2.ensures, (_, c.in_ok-map-2.ensures, (_, c.optional_strict_as.ensures, (_, c.optional-6.ensures, (_, c.optional-7.ensures, refl)))))))))))))))
