use Rattle.std.proofs.Common.{rules, refl}
use Rattle.std.proofs.lemmas.Result.{IfOk-weaker}
use Rattle.sentry_c.proofs.Asking.{forwarded_as}
use Rattle.sentry_c.specs.contracts.answered.fn.forward_answered.filter as closure
use Rattle.sentry_c.proofs.answered.forward_answered.Goals as goal

pub returns-clause-forwarded : goal.returns-clause-forwarded
returns-clause-forwarded c =
    IfOk-weaker c.forward_by.result _ _ (λ left done.
    forwarded_as _ (λ f. (closure.captures f).left.now) (λ f x b next asked. let called = asked.called in search rules) _ _ _ _ _ left refl done)
    c.forward_by.ensures.forwarded
