use Rattle.std.proofs.Common.{refl}
use Rattle.sentry_contexts.specs.Programs.{app_fields}
use Rattle.sentry_contexts.proofs.app.AppContextKeptTable.read.Goals as goal

pub returns : goal.returns
unfolding app_fields
returns g c = (_, (_, c.optional.ensures, (_, c.optional-2.ensures, (_, c.optional-3.ensures, (_, c.optional_strict_as.ensures, (_, c.optional-4.ensures, (_, c.optional-5.ensures, (_, c.optional-6.ensures, refl))))))), rw c.names.ensures at c.others.ensures)
