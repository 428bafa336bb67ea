use Rattle.std.proofs.Common.{refl}
use Rattle.sentry_contexts.specs.Programs.{app_fields}
use Rattle.sentry_contexts.proofs.app.AppContextKeptTable.copy_rows.Goals as goal

pub returns : goal.returns
unfolding app_fields
returns c = (_, (_, c.optional.ensures, (_, c.optional-2.ensures, (_, c.optional-3.ensures, (_, c.optional_strict_as.ensures, (_, c.optional-4.ensures, (_, c.optional-5.ensures, (_, c.optional-6.ensures, refl))))))), c.in_ok-others.ensures)
