use Rattle.std.proofs.Common.{inl, inr, refl}
use Rattle.sentry_event.specs.Transactions.{transaction_fields}
use Rattle.sentry_event.proofs.transaction.TransactionReadTableAt.read.Goals as goal

pub returns : goal.returns
unfolding transaction_fields
returns g c = (_, inr c.or_as_at.ensures, (_, inl c.optional.ensures, (_, inl c.drawn_as.ensures, (_, inl c.map.ensures, (_, inl c.cow_or.ensures, (_, inl c.optional-2.ensures, (_, inl c.optional-3.ensures, (_, inl c.optional-4.ensures, (_, inl c.optional-5.ensures, (_, inr c.required_list_at.ensures, (_, inr c.at_once_as.ensures, (_, inl c.map-2.ensures, (_, inl c.optional_strict_as.ensures, (_, inl c.optional-6.ensures, (_, inl c.optional-7.ensures, refl)))))))))))))))
