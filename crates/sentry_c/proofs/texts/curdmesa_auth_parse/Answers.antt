use Rattle.std.proofs.Common.{rules, inr, subst, Err}
use Rattle.sentry_keys.specs.AuthText.{ReadsHeader}
use Rattle.sentry_c.proofs.Statuses.{auth_out_of_memory, auth_refused}
use Rattle.sentry_c.proofs.texts.curdmesa_auth_parse.Goals as goal

pub returns-in-Err-clause-answers : goal.returns-in-Err-clause-answers
returns-in-Err-clause-answers c =
    inr (inr (inr (auth_refused c.args.text.now c.in-Err.error _ (search rules) (subst (λ x. ReadsHeader x (Err c.in-Err.error)) c.in-Ok.ensures.cases.0 c.in-Err.ensures))))

pub returns-in_default-to_string-clause-answers : goal.returns-in_default-to_string-clause-answers
returns-in_default-to_string-clause-answers c = inr (inr (inr (auth_out_of_memory c.args.text.now)))
