use Rattle.std.proofs.Common.{inl, inr, refl}
use Rattle.sentry_parts.specs.Breadcrumbs.{breadcrumb_fields}
use Rattle.sentry_parts.proofs.breadcrumb.BreadcrumbReadTableAt.read.Goals as goal

pub returns : goal.returns
unfolding breadcrumb_fields
returns g c = (_, inl c.optional.ensures, (_, inl c.map.ensures, (_, inl c.or.ensures, (_, inl c.optional-2.ensures, (_, inr c.at_once_as.ensures, (_, inl c.text_or.ensures, refl))))))
