use Rattle.std.proofs.Common.{rules, inr}
use Rattle.sentry_c.proofs.Statuses.{query_out_of_memory, query_refused}
use Rattle.sentry_c.proofs.keys.curdmesa_auth_from_query.Goals as goal

pub returns-in-Err-clause-answers : goal.returns-in-Err-clause-answers
returns-in-Err-clause-answers c = inr (inr (query_refused c.args.query.now c.in-Err.error _ (search rules) c.in-Err.ensures))
