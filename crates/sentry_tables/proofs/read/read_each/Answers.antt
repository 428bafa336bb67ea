use Rattle.std.proofs.Common.{◌≡◌, drop, arith, length, rules, true, false, zero, subst}
use Rattle.std.specs.Prelude.{is_some}
use Rattle.std.proofs.lemmas.List.{drop_all}
use Rattle.serde_json.specs.Find.{get_member}
use Rattle.sentry_json.specs.Nodes.{named_by}
use Rattle.sentry_json.proofs.Latest.{one_passed_over, one_put, one_counts}
use Rattle.sentry_tables.specs.Cells.{entries}
use Rattle.sentry_tables.specs.Reading.{Only, Refused}
use Rattle.sentry_tables.specs.Cell.{absent}
use Rattle.sentry_tables.specs.Kind.{map}
use Rattle.sentry_tables.specs.Shows.{Shows, MembersShow}
use Rattle.sentry_tables.proofs.ListsShown.{map_fails, map_shown, shown_name, shown_still, shown_put_as, shown_when}
use Rattle.sentry_tables.proofs.read.read_each.Goals as goal

pub loop-left-init : goal.loop-left-init
loop-left-init g c = (omega arith, λ now. rw (drop_all (length c.args.members.now) c.args.members.now (omega arith), c.new-map.ensures.empty) tt)

pub loop-left-preserved : goal.loop-left-preserved
loop-left-preserved g c =
    let l = c.loop-left in
    let ms = c.args.members.now in
    let m = c.index-members-left.result in
    let later : is_some (get_member m.key.now (named_by g.N.Node.data_of (drop l.left ms))) ≡ true =
    shown_name (λ k. Shows g.T.Member.kind absent) g.T.Member.cell_of m.key.now c.in_ok-name.name _ l.map true c.in_ok-name.ensures.ok (l.invariant.1 absent) (search rules) in (
      omega (arith, l.invariant.0),
      λ now.
          rw (one_passed_over g.N.Node.data_of ms l.left m (omega arith) l.invariant.0 c.index-members-left.is later)
          (shown_still (λ k. Shows g.T.Member.kind now) g.T.Member.cell_of _ l.map.entries _ (search rules) (l.invariant.1 now)),
    )

pub returns-in_err-from_node : goal.returns-in_err-from_node
returns-in_err-from_node g c d is =
    let l = c.loop-left in
    let ms = c.args.members.now in
    let m = c.index-members-left.result in
    let last : is_some (get_member m.key.now (named_by g.N.Node.data_of (drop l.left ms))) ≡ false =
    shown_name (λ k. Shows g.T.Member.kind absent) g.T.Member.cell_of m.key.now c.in_ok-name.name _ l.map false c.in_ok-name.ensures.ok (l.invariant.1 absent) (search rules) in
    let at = one_counts g.N.Node.data_of ms l.left m (omega arith) l.invariant.0 c.index-members-left.is last in
    let h : Only c.in_err-from_node.field-0.0 (Refused (map g.T.Member.kind) d) =
    map_fails _ _ (named_by g.N.Node.data_of ms) m.key.now (g.N.Node.data_of m.node) _ is at c.in_err-from_node.ensures in
    search rules

pub loop-left-preserved-in-Vacant : goal.loop-left-preserved-in-Vacant
loop-left-preserved-in-Vacant g c =
    let l = c.loop-left in
    let ms = c.args.members.now in
    let m = c.index-members-left.result in
    let last : is_some (get_member m.key.now (named_by g.N.Node.data_of (drop l.left ms))) ≡ false =
    shown_name (λ k. Shows g.T.Member.kind absent) g.T.Member.cell_of m.key.now c.in_ok-name.name _ l.map false c.in_ok-name.ensures.ok (l.invariant.1 absent) (search rules) in (
      omega (arith, l.invariant.0),
      λ now.
          rw (one_put g.N.Node.data_of ms l.left m (omega arith) l.invariant.0 c.index-members-left.is last)
          (shown_put_as (λ k. Shows g.T.Member.kind now) g.T.Member.cell_of _ c.in_ok-name.name _ c.in_ok-from_node.field-0 _ l.map.entries _ c.in_ok-name.ensures.ok (search rules) (shown_when now _ _ _ c.in_ok-from_node.ensures) (l.invariant.1 now)),
    )

pub returns : goal.returns
returns g c d is =
    let done : c.loop-left.left ≡ zero = omega arith in
    map_shown _ _ _ (named_by g.N.Node.data_of c.args.members.now) _ is (λ now. subst (λ n. MembersShow (λ k. Shows g.T.Member.kind now) (named_by g.N.Node.data_of (drop n c.args.members.now)) (entries g.T.Member.cell_of c.loop-left.map.entries)) done (c.loop-left.invariant.1 now))
