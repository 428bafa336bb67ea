use Rattle.std.proofs.Common.{◌≡◌, ◌+◌, [], ◌∷◌, drop, sym, ap, ◌∙◌, arith}
use Rattle.std.proofs.lemmas.List.{drop_more, drop_all}
use Rattle.sentry_tables.proofs.Collections.{list_wrote}
use Rattle.sentry_tables.proofs.Tokens.{no_items_wrote, items_wrote}
use Rattle.sentry_tables.proofs.lists.VecMember.write.Goals as goal

pub loop-item-preserved : goal.loop-item-preserved
loop-item-preserved g c end rest =
    let l = c.loop-item in
    let xs = c.deref-item-items.result.now in
    let x = c.item-item.result in
    let here : drop l.item-index xs ≡ x ∷ drop (l.item-index + 1) xs = drop_more xs l.item-index x (omega arith) ∙ ap (λ y. y ∷ drop (l.item-index + 1) xs) (sym c.item-item.is) in
    l.invariant end (rw here (items_wrote _ _ _ _ _ c.in_ok-write.ensures rest))

pub returns : goal.returns
returns g c =
    let l = c.loop-item in
    let none : drop l.item-index c.deref-item-items.result.now ≡ [] = drop_all l.item-index c.deref-item-items.result.now (omega arith) in
    list_wrote g.T.Member.kind g.T.Member.cell_of c.args.self.now.items _ _ _ _ _ c.in_ok-begin_array.ensures (l.invariant l.out (rw none (no_items_wrote l.out))) c.end_array.ensures
