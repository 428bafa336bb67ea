use Rattle.std.proofs.Common.{refl}
use Rattle.sentry_parts.specs.Breadcrumbs.{breadcrumb_fields}
use Rattle.sentry_parts.proofs.breadcrumb.BreadcrumbTable.rows.Goals as goal

pub returns : goal.returns
unfolding breadcrumb_fields
returns g c = (_, c.optional.ensures, (_, c.map.ensures, (_, c.unless.ensures, (_, c.optional-2.ensures, (_, c.at_once_as.ensures, (_, c.text_unless.ensures, refl))))))
