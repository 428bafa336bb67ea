use Rattle.std.proofs.Common.{◌≡◌, Some, refl, [], ◌∷◌, ◌++◌, subst, sym, ap, ◌∙◌, append_assoc, string_cmp, string_bytes, rules}
use Rattle.std.specs.List.Sorted.{IsStrictlySortedBy}
use Rattle.std.specs.Map.{keys_of}
use Rattle.serde_json.specs.View.{members_view}
use Rattle.serde_json.proofs.Views.{Entry}
use Rattle.sentry_json.proofs.Gathered.{named_sorted}
use Rattle.sentry_json.proofs.node.RefValueNode.members.Goals as goal

pub loop-key-preserved : goal.loop-key-preserved
loop-key-preserved c =
    let l = c.loop-key in
    let done = l.invariant.0 in
    let e : Entry = (c.in-Some-2.key.now, c.in-Some-2.node.now) in
    let left = c.next.new.self in
    let split : done ++ l.key-iterator ≡ done ++ e ∷ left = ap (λ es. done ++ es) c.in-Some-2.ensures.steps in
    let steps : done ++ l.key-iterator ≡ (done ++ e ∷ []) ++ left = split ∙ sym (append_assoc done (e ∷ []) left) in
    let named : c.as_str.result.now ≡ string_bytes e.0 = search rules in
    let sorted = subst (λ es. IsStrictlySortedBy string_cmp (keys_of es)) split l.invariant.2 in (
      done ++ e ∷ [],
      l.invariant.1 ∙ ap (λ es. Some (members_view es)) steps,
      subst (λ es. IsStrictlySortedBy string_cmp (keys_of es)) steps l.invariant.2,
      named_sorted _ _ _ _ done e left sorted c.in_ok-push.ensures.items named refl l.invariant.3,
    )
