use Rattle.std.proofs.Common.{inl, inr, refl}
use Rattle.sentry_records.specs.Sessions.{session_fields}
use Rattle.sentry_records.proofs.session_update.SessionUpdateReadTableAt.read.Goals as goal

pub returns : goal.returns
unfolding session_fields
returns g c = (_, inl c.required.ensures, (_, inl c.optional_or_null.ensures, (_, inl c.optional.ensures, (_, inl c.written_or.ensures, (_, inl c.or.ensures, (_, inl c.optional-2.ensures, (_, inl c.drawn_as.ensures, (_, inr c.at_once_as.ensures, (_, inl c.written_or-2.ensures, (_, inl c.optional_strict_as.ensures, refl))))))))))
