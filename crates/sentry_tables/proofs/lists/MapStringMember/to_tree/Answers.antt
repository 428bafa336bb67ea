use Rattle.std.proofs.Common.{◌≡◌, rules, [], ◌∷◌, ◌++◌, String, Global, sym, ap, subst, string_cmp, ◌∙◌, append_assoc}
use Rattle.std.specs.List.Sorted.{IsStrictlySortedBy}
use Rattle.std.specs.Map.{keys_of}
use Rattle.serde_json.proofs.Views.{view-Object}
use Rattle.sentry_tables.proofs.Collections.{map_written, put_more}
use Rattle.sentry_tables.proofs.lists.MapStringMember.to_tree.Goals as goal

pub loop-key-preserved : goal.loop-key-preserved
loop-key-preserved g c =
    let l = c.loop-key in
    let done = l.invariant.0 in
    let e : String Global × g.row.T.Denot = (c.in-Some.key.now, c.in-Some.value.now) in
    let left = c.next.new.self in
    let split : c.args.self.now.entries ≡ done ++ e ∷ left = l.invariant.1 ∙ ap (λ es. done ++ es) c.in-Some.ensures.steps in
    let sorted = subst (λ es. IsStrictlySortedBy string_cmp (keys_of es)) split c.iter-key-items.ensures.ordered in (
      done ++ e ∷ [],
      l.invariant.1 ∙ ap (λ es. done ++ es) c.in-Some.ensures.steps ∙ sym (append_assoc done (e ∷ []) left),
      put_more _ _ done e left _ _ _ _ sorted c.in_ok-put.ensures.ok (search rules) c.in_ok-to_tree.ensures l.invariant.2,
    )

pub returns : goal.returns
returns g c =
    let l = c.loop-key in
    let ends : c.args.self.now.entries ≡ l.invariant.0 = search rules in
    rw ends (map_written _ _ _ _ _ (view-Object l.members) l.invariant.2)
