use Rattle.std.specs.Cow.{cow_str_bytes}
use Rattle.std.proofs.lemmas.Result.{err_from_is_err_and, IfOk-at_ok}
use Rattle.form_urlencoded.specs.Form.{DecodesTo}
use Rattle.sentry_keys.proofs.AuthPairs.{query_next, told_next, pair_fails}
use Rattle.sentry_keys.proofs.auth.Auth.from_querystring.Goals as goal

pub returns-in_err-tell : goal.returns-in_err-tell
returns-in_err-tell c =
    let y = c.in-Some.ensures.steps.0 in
    let d = IfOk-at_ok (λ pair. DecodesTo y.0 (cow_str_bytes pair.0) × DecodesTo y.1 (cow_str_bytes pair.1)) c.in_ok-key.was y.3 in
    let p = err_from_is_err_and c.from_residual-in_err-tell.result c.from_residual-in_err-tell.ensures.1 in
    rw (p.1, p.2) (pair_fails _ _ _ _ _ _ _ c.loop-pair.invariant (query_next _ _ _ _ _ _ _ _ y.2 d.0 d.1 c.as_str.ensures.value c.as_str-in-loop-pair.ensures.value) c.in_err-tell.ensures.err)

pub loop-pair-preserved-in_ok-tell : goal.loop-pair-preserved-in_ok-tell
loop-pair-preserved-in_ok-tell c =
    let y = c.in-Some.ensures.steps.0 in
    let d = IfOk-at_ok (λ pair. DecodesTo y.0 (cow_str_bytes pair.0) × DecodesTo y.1 (cow_str_bytes pair.1)) c.in_ok-key.was y.3 in
    told_next _ _ _ _ _ _ _ c.loop-pair.invariant (query_next _ _ _ _ _ _ _ _ y.2 d.0 d.1 c.as_str.ensures.value c.as_str-in-loop-pair.ensures.value) c.in_ok-tell.ensures.ok

pub loop-pair-preserved : goal.loop-pair-preserved
loop-pair-preserved c =
    let y = c.in-Some.ensures.steps.0 in
    let d = IfOk-at_ok (λ pair. DecodesTo y.0 (cow_str_bytes pair.0) × DecodesTo y.1 (cow_str_bytes pair.1)) c.in_ok-key.was y.3 in
    told_next _ _ _ _ _ _ _ c.loop-pair.invariant (query_next _ _ _ _ _ _ _ _ y.2 d.0 d.1 c.as_str.ensures.value c.as_str-in-loop-pair.ensures.value) c.in_ok-tell.ensures.ok
