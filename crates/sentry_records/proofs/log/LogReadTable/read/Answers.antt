use Rattle.std.proofs.Common.{refl}
use Rattle.sentry_records.specs.Logs.{log_fields}
use Rattle.sentry_records.proofs.log.LogReadTable.read.Goals as goal

pub returns : goal.returns
unfolding log_fields
returns g c = (_, c.map.ensures, (_, c.text.ensures, (_, c.required.ensures, (_, c.optional.ensures, (_, c.required_as.ensures, (_, c.optional-2.ensures, refl))))))
