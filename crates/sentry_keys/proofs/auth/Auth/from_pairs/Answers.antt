use Rattle.std.proofs.lemmas.Result.{err_from_is_err_and}
use Rattle.sentry_keys.proofs.AuthPairs.{at_index, pair_fails}
use Rattle.sentry_keys.proofs.auth.Auth.from_pairs.Goals as goal

pub returns-in_err-tell : goal.returns-in_err-tell
returns-in_err-tell c =
    let p = err_from_is_err_and c.from_residual.result c.from_residual.ensures.1 in
    rw (p.1, p.2) (pair_fails _ _ _ _ _ _ _ c.loop-key.invariant (at_index c.args.pairs.now c.loop-key.key-index _ c.loop-key-test.true) c.in_err-tell.ensures.err)
