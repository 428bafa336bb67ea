use Rattle.std.proofs.Common.{◌≡◌, sym, ap, ◌∙◌, Result, Err, true≢false}
use Rattle.serde_json.specs.View.{view}
use Rattle.sentry_forward.proofs.Headers.{json_found, json_none}
use Rattle.sentry_forward.proofs.header.read_json.Goals as goal

err_same : {T E : Type 0} (r : Result T E) (a b : E) → r ≡ Err a → r ≡ Err b → a ≡ b
err_same r a b e f = cc

pub returns-in-Ok-clause-ok : goal.returns-in-Ok-clause-ok
returns-in-Ok-clause-ok c = json_found c.args.line.now (view c.in-Ok.tree) c.in-Ok.ensures.ok.0 c.in-Ok.ensures.ok.1

pub returns-in-Err-2-clause-err : goal.returns-in-Err-2-clause-err
returns-in-Err-2-clause-err c =
    let same : c.in-Err-2.field-0 ≡ c.in-Err.error = err_same c.from_slice.result c.in-Err-2.field-0 c.in-Err.error c.in-Err-2.is c.in-Err.is in
    json_none c.args.line.now (c.in-Err-2.ensures.err (λ m. true≢false (sym (c.if-is_memory.ensures.1 (sym (ap (λ e. e.code) same) ∙ m)))))
