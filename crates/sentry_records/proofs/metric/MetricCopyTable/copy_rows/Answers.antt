-- by hand: the value fits its type
use Rattle.std.proofs.Common.{SFits, w64, refl, rules, to_z-of_z}
use Rattle.sentry_records.specs.Metrics.{metric_fields}
use Rattle.sentry_records.proofs.metric.MetricCopyTable.copy_rows.Goals as goal

pub returns : goal.returns
unfolding metric_fields
returns c =
    let fits : SFits w64 c.plain-3.result = search rules in
    (_, c.in_ok-map.ensures, (_, c.cow.ensures, (_, c.optional.ensures, (_, c.plain_as.ensures, (_, c.plain.ensures, (_, c.plain-2.ensures, (_, c.optional-2.ensures, (_, rw (to_z-of_z fits) c.plain-3.ensures, refl))))))))
