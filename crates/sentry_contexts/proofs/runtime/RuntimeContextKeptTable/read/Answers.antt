use Rattle.std.proofs.Common.{refl}
use Rattle.sentry_contexts.specs.Systems.{runtime_fields}
use Rattle.sentry_contexts.proofs.runtime.RuntimeContextKeptTable.read.Goals as goal

pub returns : goal.returns
unfolding runtime_fields
returns g c = (_, (_, c.optional.ensures, (_, c.optional-2.ensures, refl)), rw c.names.ensures at c.others.ensures)
