use Rattle.std.proofs.Common.{◌≡◌, sym, ap, ◌∙◌, Result, Err, true≢false}
use Rattle.serde_json.specs.View.{view}
use Rattle.sentry_tables.proofs.Texts.{tree_found, tree_float, tree_none}
use Rattle.sentry_tables.proofs.line.read_tree.Goals as goal

err_same : {T E : Type 0} (r : Result T E) (a b : E) → r ≡ Err a → r ≡ Err b → a ≡ b
err_same r a b e f = cc

pub returns-in-Ok-clause-err : goal.returns-in-Ok-clause-err
returns-in-Ok-clause-err c =
    let ok = c.in-Ok.ensures.ok in
    tree_float c.args.line.now (view c.in-Ok.tree) ok.0 ok.1 (sym c.has_float.ensures.float ∙ c.if-has_float.true)

pub returns-in-Ok-2-clause-ok : goal.returns-in-Ok-2-clause-ok
returns-in-Ok-2-clause-ok c =
    let ok = c.in-Ok.ensures.ok in
    tree_found c.args.line.now (view c.in-Ok.tree) ok.0 ok.1 (sym c.has_float.ensures.float ∙ c.if-has_float.false)

pub returns-in-Err-2-clause-err : goal.returns-in-Err-2-clause-err
returns-in-Err-2-clause-err c =
    let same : c.in-Err-2.field-0 ≡ c.in-Err.error = err_same c.from_slice.result c.in-Err-2.field-0 c.in-Err.error c.in-Err-2.is c.in-Err.is in
    tree_none c.args.line.now (c.in-Err-2.ensures.err (λ m. true≢false (sym (c.if-is_memory.ensures.1 (sym (ap (λ e. e.code) same) ∙ m)))))
