-- by hand: the value fits its type
use Rattle.std.proofs.Common.{SFits, w64, refl, rules, to_z-of_z}
use Rattle.sentry_records.specs.Metrics.{metric_fields}
use Rattle.sentry_records.proofs.metric.MetricReadTable.read.Goals as goal

pub returns : goal.returns
unfolding metric_fields
returns g c =
    let fits : SFits w64 c.required-3.result = search rules in
    (_, c.map.ensures, (_, c.cow.ensures, (_, c.optional.ensures, (_, c.required_as.ensures, (_, c.required.ensures, (_, c.required-2.ensures, (_, c.optional-2.ensures, (_, rw (to_z-of_z fits) c.required-3.ensures, refl))))))))
