use Rattle.std.proofs.Common.{◌≡◌, true, true≢false, sym, subst, ◌∙◌}
use Rattle.std.proofs.lemmas.Slice.Eq.{bytes_eq-Decides}
use Rattle.sentry_json.specs.TapeView.{node_data}
use Rattle.sentry_json.proofs.Replaced.{Keeps, Replaces, replaced_here, replaced_later, kept_on}
use Rattle.sentry_json.proofs.tape.judge.stands_in.Goals as goal

pub loop-name-init : goal.loop-name-init
loop-name-init c =
    let all = c.split_at.ensures.back in
    let key = c.args.key.now in
    (subst (Replaces key) all, subst (Keeps key) all)

pub loop-name-preserved : goal.loop-name-preserved
loop-name-preserved c =
    let l = c.loop-name in
    let next = c.in-Some in
    let key = c.args.key.now in
    let apart : key ≡ next.name.now → ⊥ = λ same. true≢false (sym ((bytes_eq-Decides key next.name.now).1 same) ∙ sym c.if-is_same.ensures) in (
      λ more. l.invariant.0 (replaced_later key next.name.now (node_data next.field-0-1) l.rest.now next.after.now next.ensures.0 apart more),
      λ more. l.invariant.1 (kept_on key next.name.now (node_data next.field-0-1) l.rest.now next.after.now next.ensures.0 apart more),
    )

pub returns-then-is_same-clause-found : goal.returns-then-is_same-clause-found
returns-then-is_same-clause-found c = λ is.
    let l = c.loop-name in
    let next = c.in-Some in
    let key = c.args.key.now in
    l.invariant.0 (replaced_here key next.name.now (node_data next.field-0-1) l.rest.now next.after.now next.ensures.0 ((bytes_eq-Decides key next.name.now).0 (sym c.if-is_same.ensures)))
