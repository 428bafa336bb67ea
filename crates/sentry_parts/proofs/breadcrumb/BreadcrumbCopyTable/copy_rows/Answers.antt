use Rattle.std.proofs.Common.{refl}
use Rattle.sentry_parts.specs.Breadcrumbs.{breadcrumb_fields}
use Rattle.sentry_parts.proofs.breadcrumb.BreadcrumbCopyTable.copy_rows.Goals as goal

pub returns : goal.returns
unfolding breadcrumb_fields
returns c = (_, c.optional.ensures, (_, c.in_ok-map.ensures, (_, c.plain.ensures, (_, c.optional-2.ensures, (_, c.plain_as.ensures, (_, c.text.ensures, refl))))))
