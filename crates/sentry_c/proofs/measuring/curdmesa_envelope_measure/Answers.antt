use Rattle.std.proofs.Common.{◌∙◌}
use Rattle.sentry_c.proofs.LimitRows.{measures}
use Rattle.sentry_c.proofs.measuring.curdmesa_envelope_measure.Goals as goal

pub returns-clause-measured : goal.returns-clause-measured
returns-clause-measured c = λ _.
    measures c.args.bytes.now c.copy_from_slice.new.self c.copy_from_slice-2.new.self c.longest.result c.in-Ok.measured (c.copy_from_slice.ensures.after ∙ c.all_items.ensures) (c.copy_from_slice-2.ensures.after ∙ c.all_bytes.ensures) c.longest.ensures c.in-Ok.ensures.measured
