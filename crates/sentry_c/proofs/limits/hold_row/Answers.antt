use Rattle.std.proofs.Common.{◌∙◌}
use Rattle.sentry_c.proofs.LimitRows.{holds}
use Rattle.sentry_c.proofs.limits.hold_row.Goals as goal

pub returns-clause-held : goal.returns-clause-held
returns-clause-held c = λ _.
    holds c.args.text.now c.in-Ok.text.now c.args.limits.now c.copy_from_slice.new.self c.args.now_secs c.args.now_nanos c.in-Some-new.now c.in-Some.held c.hold.new.held c.in-Some-new.ensures.same.0 c.in-Some-new.ensures.same.1 c.in-Ok.ensures.cases.0
    c.in-Some.ensures.found (c.copy_from_slice.ensures.after ∙ c.ends.ensures) c.args.retry_after c.hold.ensures
