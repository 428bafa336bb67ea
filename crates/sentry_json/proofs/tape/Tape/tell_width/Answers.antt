use Rattle.std.proofs.Common.{rules, ◌≡◌, ◌++◌, ◌∷◌, length, slice_set, ap, sym, ◌∙◌}
use Rattle.sentry_json.proofs.SoFar.{bracket, are_kept, set_back, counted}
use Rattle.sentry_json.proofs.tape.Tape.tell_width.Goals as goal

pub returns-then-this-ne0 : goal.returns-then-this-ne0
returns-then-this-ne0 g c old done first at is =
    let all = c.args.self.now.tokens.items in
    let held = are_kept g.row.KEPT c.if-this-ne0.true in
    let are : all ≡ old ++ first ∷ done = is ∙ ap (λ ts. old ++ ts) (held (first ∷ done)) in
    let long : c.len.result ≡ length all = search rules in
    let told = c.bracket.ensures ∙ ap (bracket c.args.object) (counted all old done c.len.result c.args.place first are long at) in
    ap (slice_set all c.args.place) told ∙ set_back all old done c.args.place first (bracket c.args.object (length done)) are at ∙ ap (λ ts. old ++ ts) (sym (held (bracket c.args.object (length done) ∷ done)))
