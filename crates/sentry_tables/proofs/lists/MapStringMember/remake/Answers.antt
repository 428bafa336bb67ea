use Rattle.std.proofs.Common.{◌≡◌, [], ◌∷◌, ◌++◌, String, Global, sym, ap, subst, ◌∙◌, append_assoc, rules, string_bytes, string_cmp}
use Rattle.std.specs.List.Sorted.{IsStrictlySortedBy}
use Rattle.std.specs.Map.{keys_of}
use Rattle.sentry_tables.specs.Cells.{entries}
use Rattle.sentry_tables.proofs.Collections.{copied_entry}
use Rattle.sentry_tables.proofs.Ways.{map_made}
use Rattle.sentry_tables.proofs.lists.MapStringMember.remake.Goals as goal

pub loop-key-preserved : goal.loop-key-preserved
loop-key-preserved g c =
    let l = c.loop-key in
    let done = l.invariant.0 in
    let e : String Global × g.row.T.Denot = (c.in-Some.key.now, c.in-Some.value.now) in
    let left = c.next.new.self in
    let split : c.args.self.now.entries ≡ done ++ e ∷ left = l.invariant.1 ∙ ap (λ es. done ++ es) c.in-Some.ensures.steps in
    let sorted = subst (λ es. IsStrictlySortedBy string_cmp (keys_of es)) split c.iter-key-items.ensures.ordered in
    let named : string_bytes c.in_ok-name.name ≡ string_bytes e.0 = c.in_ok-name.ensures.cases in (
      done ++ e ∷ [],
      split ∙ sym (append_assoc done (e ∷ []) left),
      ap (entries g.T.Member.cell_of) c.in_ok-insert.ensures.entries ∙ copied_entry _ _ done e left _ c.in_ok-name.name _ sorted named l.invariant.2 c.in_ok-remake.ensures,
    )

pub returns : goal.returns
returns g c =
    let l = c.loop-key in
    let ends : c.args.self.now.entries ≡ l.invariant.0 = search rules in
    rw ends (map_made _ _ _ _ _ l.invariant.2)
