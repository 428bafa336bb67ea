use Rattle.std.proofs.Common.{ℕ, subst, sym, ◌∙◌}
use Rattle.std.specs.Str.{IsCharBoundary}
use Rattle.std.proofs.lemmas.Bool.{false≢true}
use Rattle.sentry_identifiers.proofs.DebugIds.{no_cut, front_refused, back_refused, parts_read, not_parsed}
use Rattle.sentry_identifiers.proofs.debug_id.read_parts.Goals as goal

pub returns-in_err-id : goal.returns-in_err-id
returns-in_err-id c =
    c.from_residual.ensures ∙ no_cut c.args.text.now (λ h. false≢true (c.in_err-id.ensures.variant.1 (subst (λ (k : ℕ). IsCharBoundary c.args.text.now k) (sym c.id_size.ensures) h)))

pub returns-in_err-read_appendix-in-Ok : goal.returns-in_err-read_appendix-in-Ok
returns-in_err-read_appendix-in-Ok c =
    c.from_residual-in_err-read_appendix-in-Ok.ensures ∙ back_refused c.args.text.now c.in_ok-id.tail.now c.id_size.result c.id_size.ensures c.in_ok-id.ensures.back c.in_err-read_appendix-in-Ok.ensures

pub returns-in_ok-read_appendix-in-Ok : goal.returns-in_ok-read_appendix-in-Ok
returns-in_ok-read_appendix-in-Ok c =
    parts_read c.args.text.now c.in_ok-id.id.now c.in_ok-id.tail.now c.in-Ok.uuid c.in_ok-read_appendix-in-Ok.field-0 c.id_size.result c.id_size.ensures c.in_ok-id.ensures.front c.in_ok-id.ensures.back c.in-Ok.ensures.bytes c.in_ok-read_appendix-in-Ok.ensures

pub returns-in-Err : goal.returns-in-Err
returns-in-Err c =
    front_refused c.args.text.now c.in_ok-id.id.now c.id_size.result c.id_size.ensures c.in_ok-id.ensures.front (not_parsed _ (λ h. false≢true (c.in-Err.ensures.ok.1 h)))
