use Rattle.std.proofs.Common.{refl}
use Rattle.sentry_contexts.specs.Systems.{os_fields}
use Rattle.sentry_contexts.proofs.os.OsContextKeptTable.read.Goals as goal

pub returns : goal.returns
unfolding os_fields
returns g c = (_, (_, c.optional.ensures, (_, c.optional-2.ensures, (_, c.optional-3.ensures, (_, c.optional-4.ensures, (_, c.optional-5.ensures, refl))))), rw c.names.ensures at c.others.ensures)
