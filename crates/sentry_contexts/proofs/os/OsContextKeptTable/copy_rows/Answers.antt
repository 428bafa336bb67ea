use Rattle.std.proofs.Common.{refl}
use Rattle.sentry_contexts.specs.Systems.{os_fields}
use Rattle.sentry_contexts.proofs.os.OsContextKeptTable.copy_rows.Goals as goal

pub returns : goal.returns
unfolding os_fields
returns c = (_, (_, c.optional.ensures, (_, c.optional-2.ensures, (_, c.optional-3.ensures, (_, c.optional-4.ensures, (_, c.optional-5.ensures, refl))))), c.in_ok-others.ensures)
