use Rattle.std.proofs.Common.{◌≡◌, ap, sym, ◌∙◌, map, take, arith, true, false, string_bytes, rules}
use Rattle.std.proofs.lemmas.List.{take_all}
use Rattle.serde_json.specs.View.{view, members_view}
use Rattle.serde_json.proofs.Views.{members_view-insert_entry}
use Rattle.sentry_json.specs.Keys.{is_among, beside}
use Rattle.sentry_json.specs.Nodes.{named_by}
use Rattle.sentry_json.proofs.Gathered.{beside_same, beside_more}
use Rattle.sentry_json.proofs.object.Object.members_beside.Goals as goal

pub loop-member-preserved-then-is_among : goal.loop-member-preserved-then-is_among
loop-member-preserved-then-is_among g c =
    let m = c.member-item.result in
    let named : is_among m.key.now (map (λ n. n.now) c.args.names.now) ≡ true = sym c.is_among.ensures ∙ c.if-is_among.true in
    c.loop-member.invariant ∙ beside_same g.N.Node.data_of _ _ c.loop-member.member-index m (omega arith) c.member-item.is named

pub loop-member-preserved : goal.loop-member-preserved
loop-member-preserved g c =
    let names = map (λ n. n.now) c.args.names.now in
    let m = c.member-item.result in
    let other : is_among m.key.now names ≡ false = sym c.is_among.ensures ∙ c.if-is_among.false in
    let named : string_bytes c.in_ok-name.name ≡ m.key.now = c.in_ok-name.ensures.ok in
    let seen : view c.in_ok-to_value.field-0 ≡ g.N.Node.data_of m.node = c.in_ok-to_value.ensures in
    ap members_view c.in_ok-insert.ensures.entries ∙ members_view-insert_entry c.loop-member.others.entries c.in_ok-name.name c.in_ok-to_value.field-0 ∙ rw (named, seen, c.loop-member.invariant) (beside_more g.N.Node.data_of names _ c.loop-member.member-index m (omega arith) c.member-item.is other)

pub returns : goal.returns
returns g c =
    let ms = c.deref-member-items.result.now in
    let all : take c.loop-member.member-index ms ≡ ms = take_all c.loop-member.member-index ms (omega arith) in
    let same : ms ≡ c.args.self.now.members.items = search rules in
    c.loop-member.invariant ∙ ap (λ xs. beside (map (λ n. n.now) c.args.names.now) (named_by g.N.Node.data_of xs)) (all ∙ same)
