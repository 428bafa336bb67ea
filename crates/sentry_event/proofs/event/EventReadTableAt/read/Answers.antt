use Rattle.std.proofs.Common.{inl, inr, refl}
use Rattle.sentry_event.specs.Events.{event_fields}
use Rattle.sentry_event.proofs.event.EventReadTableAt.read.Goals as goal

pub returns : goal.returns
unfolding event_fields
returns g c = (_, inr c.values_at.ensures, (_, inr c.or_as_at.ensures, (_, inl c.optional.ensures, (_, inl c.or_as.ensures, (_, inl c.optional-2.ensures, (_, inl c.optional-3.ensures, (_, inl c.drawn_as.ensures, (_, inl c.values.ensures, (_, inl c.map.ensures, (_, inl c.made_as.ensures, (_, inl c.or.ensures, (_, inl c.optional-4.ensures, (_, inl c.optional-5.ensures, (_, inl c.optional-6.ensures, (_, inl c.map-2.ensures, (_, inl c.cow_or.ensures, (_, inl c.optional-7.ensures, (_, inl c.optional-8.ensures, (_, inl c.optional-9.ensures, (_, inl c.optional-10.ensures, (_, inl c.optional-11.ensures, (_, inl c.map-3.ensures, (_, inl c.optional-12.ensures, (_, inl c.values-2.ensures, (_, inr c.at_once_as.ensures, (_, inl c.optional-13.ensures, (_, inl c.optional-14.ensures, refl)))))))))))))))))))))))))))
