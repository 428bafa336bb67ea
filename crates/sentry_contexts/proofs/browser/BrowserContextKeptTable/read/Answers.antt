use Rattle.std.proofs.Common.{refl}
use Rattle.sentry_contexts.specs.Programs.{browser_fields}
use Rattle.sentry_contexts.proofs.browser.BrowserContextKeptTable.read.Goals as goal

pub returns : goal.returns
unfolding browser_fields
returns g c = (_, (_, c.optional.ensures, (_, c.optional-2.ensures, refl)), rw c.names.ensures at c.others.ensures)
