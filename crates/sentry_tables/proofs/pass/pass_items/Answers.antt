use Rattle.std.proofs.Common.{◌≡◌, ◌+◌, [], ◌∷◌, drop, sym, ap, ◌∙◌, arith, Err, rules}
use Rattle.std.proofs.lemmas.List.{drop_more, drop_all}
use Rattle.sentry_json.specs.Nodes.{items_data}
use Rattle.sentry_tables.specs.Reading.{Only, Refused}
use Rattle.sentry_tables.specs.Passed.{ItemsRefused}
use Rattle.sentry_tables.proofs.Passing.{no_items_passed, items_passed, item_refused, items_refused, only_through}
use Rattle.sentry_tables.proofs.pass.pass_items.Goals as goal

pub loop-item-init : goal.loop-item-init
loop-item-init g c = (λ end h. h, λ h. h)

pub loop-item-preserved : goal.loop-item-preserved
loop-item-preserved g c =
    let l = c.loop-item in
    let xs = c.args.items.now in
    let x = c.item-item.result in
    let here : drop l.item-index xs ≡ x ∷ drop (l.item-index + 1) xs = drop_more xs l.item-index x (omega arith) ∙ ap (λ y. y ∷ drop (l.item-index + 1) xs) (sym c.item-item.is) in (
      λ end rest. l.invariant.0 end (rw here (items_passed _ _ _ _ _ _ c.in_ok-pass.ensures rest)),
      λ rest. l.invariant.1 (rw here (items_refused _ _ _ rest)),
    )

pub returns-in_err-pass : goal.returns-in_err-pass
returns-in_err-pass g c =
    let l = c.loop-item in
    let xs = c.args.items.now in
    let x = c.item-item.result in
    let here : drop l.item-index xs ≡ x ∷ drop (l.item-index + 1) xs = drop_more xs l.item-index x (omega arith) ∙ ap (λ y. y ∷ drop (l.item-index + 1) xs) (sym c.item-item.is) in
    let h : Only c.in_err-pass.field-0.0 (ItemsRefused g.T.Member.kind (items_data g.N.Node.data_of xs)) =
    only_through _ _ _ (λ refused. l.invariant.1 (rw here (item_refused _ _ _ refused))) c.in_err-pass.ensures in
    search rules

pub returns : goal.returns
returns g c =
    let l = c.loop-item in
    let none : drop l.item-index c.args.items.now ≡ [] = drop_all l.item-index c.args.items.now (omega arith) in
    l.invariant.0 _ (rw none (no_items_passed _ _))
