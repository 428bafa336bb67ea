use Rattle.std.proofs.Common.{rules, ◌≡◌, drop, [], refl, sym, ap, ◌∙◌, arith}
use Rattle.std.proofs.lemmas.List.{nil_from_length}
use Rattle.serde_json.specs.Data.{null, item, array, object, no_members, put}
use Rattle.serde_json.specs.View.{view, items_view, members_view}
use Rattle.serde_json.specs.declared.value.Value.{Null, the_lemmas}
use Rattle.serde_json.proofs.Views.{view-Array, view-Object, members_view-insert_entry}
use Rattle.sentry_json.proofs.Gathered.{items_before, items_push, items_viewed}
use Rattle.sentry_json.specs.Tokens.{items_of, members_of}
use Rattle.sentry_json.specs.TapeView.{node_data}
use Rattle.sentry_json.specs.declared.tape.token.Token.TheVariants as token
use Rattle.sentry_json.proofs.TokenLists.{first_value, items_end, members_end}
use Rattle.sentry_json.proofs.tape.node.+grow.Goals as goal

pub grow-returns-in-Null : goal.grow-returns-in-Null
grow-returns-in-Null t c =
    let seen : view Null ≡ null = search (rules, the_lemmas) in
    seen ∙ sym (first_value c.args.node.tokens.now c.in-Some.first.now token.Null c.in-Some.ensures.value c.in-Null.is)

pub grow-returns-in_ok-grow_items-in-Array : goal.grow-returns-in_ok-grow_items-in-Array
grow-returns-in_ok-grow_items-in-Array t c = view-Array _ ∙ ap array c.in_ok-grow_items-in-Array.ensures ∙ sym (first_value c.args.node.tokens.now c.in-Some.first.now (token.Array c.in-Array.field-0) c.in-Some.ensures.value c.in-Array.is)

pub grow-returns-in_ok-grow_members-in-Object : goal.grow-returns-in_ok-grow_members-in-Object
grow-returns-in_ok-grow_members-in-Object t c = view-Object _ ∙ ap object c.in_ok-grow_members-in-Object.ensures ∙ sym (first_value c.args.node.tokens.now c.in-Some.first.now (token.Object c.in-Object.field-0) c.in-Some.ensures.value c.in-Object.is)

pub grow_items-returns-in_default : goal.grow_items-returns-in_default
grow_items-returns-in_default t c =
    let none = nil_from_length c.args.node.tokens.now c.in_default.ensures.cases in
    ap items_view c.new.ensures.items ∙ sym (ap (λ ts. items_of (drop 1 ts)) none ∙ items_end)

pub grow_items-loop-item-init : goal.grow_items-loop-item-init
grow_items-loop-item-init t c =
    let first = c.in-Some in
    let none : c.in_ok-values.values.items ≡ [] = c.in_ok-values.ensures.items in
    (ap (λ ts. items_of (drop 1 ts)) first.ensures.cases.0 ∙ ap (λ vs. items_before view vs (items_of first.inside.now)) (sym none), omega (arith, first.ensures.cases.1))

pub grow_items-grow-requires : goal.grow_items-grow-requires
grow_items-grow-requires t c = (omega (arith, c.loop-item.invariant.1, c.in-Some-split_item.ensures.lengths.1), tt)

pub grow_items-loop-item-preserved : goal.grow_items-loop-item-preserved
grow_items-loop-item-preserved t c =
    let l = c.loop-item in
    let vs = l.values.items in
    let next = c.in-Some-split_item in
    let left = items_of next.after.now in
    let first : items_of l.rest.now ≡ item (view c.in_ok-grow.field-0) left = next.ensures.item ∙ ap (λ d. item d left) (sym c.in_ok-grow.ensures) in
    (rw c.in_ok-push.ensures.items (l.invariant.0 ∙ ap (items_before view vs) first ∙ items_push view vs _ left), omega (arith, l.invariant.1, next.ensures.lengths.1))

pub grow_items-returns : goal.grow_items-returns
grow_items-returns t c =
    let l = c.loop-item in
    sym (l.invariant.0 ∙ ap (items_before view l.values.items) c.in_default-split_item.ensures.item ∙ items_viewed l.values.items)

pub grow_members-returns-in_default : goal.grow_members-returns-in_default
grow_members-returns-in_default t c =
    let none = nil_from_length c.args.node.tokens.now c.in_default.ensures.cases in
    ap members_view c.new-values.ensures.empty ∙ sym (ap (λ ts. members_of (drop 1 ts) no_members) none ∙ members_end no_members)

pub grow_members-loop-key-init : goal.grow_members-loop-key-init
grow_members-loop-key-init t c =
    let first = c.in-Some in
    let none : c.new-values.result.entries ≡ [] = c.new-values.ensures.empty in
    (ap (λ ts. members_of (drop 1 ts) no_members) first.ensures.cases.0 ∙ ap (λ es. members_of first.inside.now (members_view es)) (sym none), omega (arith, first.ensures.cases.1))

pub grow_members-grow-requires : goal.grow_members-grow-requires
grow_members-grow-requires t c = (omega (arith, c.loop-key.invariant.1, c.in-Some-split_member.ensures.1), tt)

pub grow_members-loop-key-preserved : goal.grow_members-loop-key-preserved
grow_members-loop-key-preserved t c =
    let l = c.loop-key in
    let next = c.in-Some-split_member in
    let before = members_view l.values.entries in
    let made : members_view c.insert.new.self.entries ≡ put next.key.now (node_data next.member) before =
    ap members_view c.in_ok-insert.ensures.entries ∙ members_view-insert_entry l.values.entries c.in_ok-name.name _ ∙ rw (c.in_ok-name.ensures.ok, c.in_ok-grow.ensures) refl in
    (l.invariant.0 ∙ next.ensures.0 before ∙ ap (members_of next.after.now) (sym made), omega (arith, l.invariant.1, next.ensures.1))

pub grow_members-returns : goal.grow_members-returns
grow_members-returns t c =
    let l = c.loop-key in
    sym (l.invariant.0 ∙ c.in_default-split_member.ensures (members_view l.values.entries))
