use Rattle.std.proofs.Common.{◌≡◌, ◌++◌, ◌∙◌, ap₂, sym, length, take-append-drop}
use Rattle.std.proofs.lemmas.Bool.Decides.{Decides-eqb}
use Rattle.std.proofs.lemmas.Slice.Eq.{slice_eq-Decides}
use Rattle.sentry_framing.proofs.short.after.Goals as goal

pub returns-then-eq : goal.returns-then-eq
returns-then-eq c =
    let same : c.in_ok-begin.begin.now ≡ c.args.front.now = (slice_eq-Decides Decides-eqb _ _ _ c.eq.ensures).0 c.if-eq.true in
    let cut = c.in_ok-begin.ensures.cases in
    sym (take-append-drop (length c.args.front.now) c.args.bytes.now) ∙ ap₂ (λ s t. s ++ t) (sym cut.1 ∙ same) (sym cut.2)
