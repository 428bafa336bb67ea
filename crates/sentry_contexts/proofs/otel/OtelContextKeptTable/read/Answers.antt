use Rattle.std.proofs.Common.{refl}
use Rattle.sentry_contexts.specs.Telemetry.{otel_fields}
use Rattle.sentry_contexts.proofs.otel.OtelContextKeptTable.read.Goals as goal

pub returns : goal.returns
unfolding otel_fields
returns g c = (_, (_, c.map.ensures, (_, c.map-2.ensures, refl)), rw c.names.ensures at c.others.ensures)
