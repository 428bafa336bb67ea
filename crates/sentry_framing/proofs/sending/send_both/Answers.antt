use Rattle.std.proofs.lemmas.Result.{err_from_is_err_and, on_err_weaker}
use Rattle.sentry_framing.proofs.Sent.{front_of_first, front_of_second}
use Rattle.sentry_framing.proofs.sending.send_both.Goals as goal

pub returns-in_err-send_plain-clause-front : goal.returns-in_err-send_plain-clause-front
returns-in_err-send_plain-clause-front g c =
    let failed = err_from_is_err_and c.from_residual.result c.from_residual.ensures.1 in
    rw failed.1 (front_of_first _ _ _ c.args.second.now c.in_err-send_plain.ensures.front)

pub returns-clause-front : goal.returns-clause-front
returns-clause-front g c = on_err_weaker c.send_plain-2.result (front_of_second _ _ _ _ _ c.in_ok-send_plain.ensures.whole) c.send_plain-2.ensures.front
