use Rattle.std.proofs.lemmas.Result.{err_from_is_err_and}
use Rattle.sentry_env.proofs.run.send_left.Goals as goal

pub returns-in_err-send-in-Some-clause-sent : goal.returns-in_err-send-in-Some-clause-sent
returns-in_err-send-in-Some-clause-sent g c =
    let exit = err_from_is_err_and c.from_residual.result c.from_residual.ensures.1 in
    rw (exit.1, exit.2, c.in-Some.is) (c.in_err-send-in-Some.ensures.front, c.in_err-send-in-Some.ensures.one_failure)
