use Rattle.std.proofs.Common.{◌++◌, SFits, w64, sym, ap, subst, to_z-of_z, ◌∙◌}
use Rattle.sentry_json.proofs.Integers.{negative_fits}
use Rattle.sentry_json.proofs.WordsAndTexts.{negative_spelled}
use Rattle.sentry_json.proofs.tape.number.split_negative.Goals as goal

pub returns-clause-spelled : goal.returns-clause-spelled
returns-clause-spelled c =
    let b = c.in_ok-behind in
    let d = c.in_ok-size in
    let r = c.in_ok-rest in
    let n = c.in_ok-number in
    let parts = r.ensures.parts ∙ ap (λ f. f ++ r.rest.text.now) r.ensures.front in
    let fits = subst (SFits w64) (sym n.ensures.value) (negative_fits d.size n.ensures.sized.1) in
    negative_spelled b.behind.text.now r.rest.text.now d.size d.len parts (rw c.bytes.ensures at d.ensures) c.args.text.text.now _ b.ensures n.ensures.sized.0 n.ensures.sized.1 (to_z-of_z fits ∙ n.ensures.value)
