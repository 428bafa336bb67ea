use Rattle.std.proofs.Common.{sym, ap, ◌∙◌}
use Rattle.sentry_limits.specs.RateLimits.{category_end}
use Rattle.sentry_limits.specs.declared.rate_limits.RateLimits.{RateLimits}
use Rattle.sentry_c.proofs.Rows.{category_number}
use Rattle.sentry_c.proofs.limits.curdmesa_limits_category_end.Goals as goal

pub returns-clause-told : goal.returns-clause-told
returns-clause-told c = λ _.
    let category = c.in-Some-category_at.category in
    (category, sym (category_number c.args.category category (sym c.in-Some-category_at.ensures)), c.category_end.ensures ∙ ap (λ (limits : RateLimits). category_end limits category) c.in-Some.ensures.found)
