use Rattle.std.proofs.Common.{refl}
use Rattle.sentry_records.specs.Metrics.{metric_fields}
use Rattle.sentry_records.proofs.metric.MetricTable.rows.Goals as goal

pub returns : goal.returns
unfolding metric_fields
returns g c = (_, c.map.ensures, (_, c.required.ensures, (_, c.optional.ensures, (_, c.required_as.ensures, (_, c.required-2.ensures, (_, c.required-3.ensures, (_, c.optional-2.ensures, (_, c.required-4.ensures, refl))))))))
