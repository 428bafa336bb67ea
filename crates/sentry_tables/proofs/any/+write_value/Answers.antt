use Rattle.std.proofs.Common.{◌≡◌, ◌+◌, [], ◌∷◌, drop, sym, ap, ◌∙◌, arith, rules}
use Rattle.std.proofs.lemmas.List.{drop_more, drop_all}
use Rattle.serde_json.specs.Data.{null, boolean, string}
use Rattle.serde_json.specs.View.{view}
use Rattle.serde_json.specs.declared.value.Value.{the_lemmas}
use Rattle.serde_json.proofs.Views.{Entry, view-Array, view-Object}
use Rattle.sentry_tables.specs.Continued.{no_members_wrote}
use Rattle.sentry_tables.proofs.Tokens.{no_items_wrote, items_wrote, array_wrote, members_wrote, object_wrote, null_wrote, boolean_wrote, string_wrote}
use Rattle.sentry_tables.proofs.any.+write_value.Goals as goal

pub write_items-loop-item-preserved : goal.write_items-loop-item-preserved
write_items-loop-item-preserved t c end rest =
    let l = c.loop-item in
    let xs = c.deref-item-items.result.now in
    let x = c.item-item.result in
    let here : drop l.item-index xs ≡ x ∷ drop (l.item-index + 1) xs = drop_more xs l.item-index x (omega arith) ∙ ap (λ y. y ∷ drop (l.item-index + 1) xs) (sym c.item-item.is) in
    l.invariant end (rw here (items_wrote _ _ _ _ _ c.in_ok-write_value.ensures rest))

pub write_items-returns : goal.write_items-returns
write_items-returns t c =
    let l = c.loop-item in
    let none : drop l.item-index c.deref-item-items.result.now ≡ [] = drop_all l.item-index c.deref-item-items.result.now (omega arith) in
    l.invariant l.out (rw none (no_items_wrote l.out))

pub write_members-loop-key-preserved : goal.write_members-loop-key-preserved
write_members-loop-key-preserved t c end rest =
    let l = c.loop-key in
    let e : Entry = (c.in-Some.key.now, c.in-Some.member.now) in
    let here : l.key-iterator ≡ e ∷ c.next.new.self = c.in-Some.ensures.steps in
    l.invariant end (rw here (members_wrote _ _ _ _ _ _ _ _ c.as_str.ensures.value c.in_ok-key.ensures c.in_ok-write_value.ensures rest))

pub write_members-returns : goal.write_members-returns
write_members-returns t c =
    let l = c.loop-key in
    l.invariant l.out (rw c.in-None.ensures.steps.0 (no_members_wrote l.out))

pub write_value-returns-in-Null : goal.write_value-returns-in-Null
write_value-returns-in-Null t c =
    let seen : view c.args.value.now ≡ null = rw c.in-Null.is (search (rules, the_lemmas)) in
    rw seen (null_wrote _ _ _ c.null.ensures)

pub write_value-returns-in-Bool : goal.write_value-returns-in-Bool
write_value-returns-in-Bool t c =
    let seen : view c.args.value.now ≡ boolean c.in-Bool.truth = rw c.in-Bool.is (search (rules, the_lemmas)) in
    rw seen (boolean_wrote _ _ _ _ c.boolean.ensures)

pub write_value-returns-in-String : goal.write_value-returns-in-String
write_value-returns-in-String t c =
    let seen : view c.args.value.now ≡ string c.as_str.result.now = rw c.in-String.is (search (rules, the_lemmas)) in
    rw seen (string_wrote _ _ _ _ c.string.ensures)

pub write_value-returns-in-Array : goal.write_value-returns-in-Array
write_value-returns-in-Array t c = rw (ap view c.in-Array.is ∙ view-Array c.in-Array.items) c.write_array.ensures

pub write_value-returns-in-Object : goal.write_value-returns-in-Object
write_value-returns-in-Object t c = rw (ap view c.in-Object.is ∙ view-Object c.in-Object.members) c.write_object.ensures

pub write_array-returns : goal.write_array-returns
write_array-returns t c = array_wrote _ _ _ _ _ _ c.in_ok-begin_array.ensures c.in_ok-write_items.ensures c.end_array.ensures

pub write_object-returns : goal.write_object-returns
write_object-returns t c = object_wrote _ _ _ _ _ _ c.in_ok-begin_object.ensures c.in_ok-write_members.ensures c.end_object.ensures
