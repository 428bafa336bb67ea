use Rattle.std.proofs.Common.{◌≡◌, drop, arith, rules, true, false, zero, subst}
use Rattle.std.specs.Prelude.{is_some}
use Rattle.std.proofs.lemmas.List.{drop_all}
use Rattle.serde_json.specs.Find.{get_member}
use Rattle.sentry_json.specs.Nodes.{named_by}
use Rattle.sentry_json.proofs.Latest.{one_passed_over, one_put, one_counts}
use Rattle.sentry_tables.specs.Kind.{tagged_map}
use Rattle.sentry_tables.specs.Shows.{MembersShow}
use Rattle.sentry_tables.specs.Cells.{entries}
use Rattle.sentry_tables.specs.Reading.{Only, RefusedAt}
use Rattle.sentry_tables.proofs.ListsShown.{shown_name, shown_still, shown_put_as}
use Rattle.sentry_moments.specs.Moments.{moment_cell}
use Rattle.sentry_rows.specs.Cased.{ShowsEntry}
use Rattle.sentry_rows.proofs.CaseMaps.{map_fails, map_shown, entry_shown}
use Rattle.sentry_rows.proofs.case_map.read_case_map.Goals as goal

pub loop-left-init : goal.loop-left-init
loop-left-init g c = (omega arith, rw (drop_all c.len-left.result c.in_ok-members-2.members.items (omega arith), c.new-map.ensures.empty) tt)

pub index-member-requires : goal.index-member-requires
index-member-requires g c = omega (arith, c.loop-left.invariant.0)

pub loop-left-preserved : goal.loop-left-preserved
loop-left-preserved g c =
    let l = c.loop-left in
    let ms = c.in_ok-members-2.members.items in
    let m = c.index-member.result.now in
    let P = ShowsEntry g.T.Cased.cases c.args.fallback.now (moment_cell c.args.now) in
    let later : is_some (get_member m.key.now (named_by g.N.Node.data_of (drop l.left ms))) ≡ true =
    shown_name P g.T.Cased.choice_of m.key.now c.in_ok-name.name _ l.map true c.in_ok-name.ensures.ok l.invariant.1 (search rules) in (
      omega (arith, l.invariant.0),
      rw (one_passed_over g.N.Node.data_of ms l.left m (omega arith) l.invariant.0 c.index-member.ensures later)
          (shown_still P g.T.Cased.choice_of _ l.map.entries _ (search rules) l.invariant.1),
    )

pub returns-in_err-read_entry : goal.returns-in_err-read_entry
returns-in_err-read_entry g c =
    let l = c.loop-left in
    let ms = c.in_ok-members-2.members.items in
    let m = c.index-member.result.now in
    let P = ShowsEntry g.T.Cased.cases c.args.fallback.now (moment_cell c.args.now) in
    let last : is_some (get_member m.key.now (named_by g.N.Node.data_of (drop l.left ms))) ≡ false =
    shown_name P g.T.Cased.choice_of m.key.now c.in_ok-name.name _ l.map false c.in_ok-name.ensures.ok l.invariant.1 (search rules) in
    let at = one_counts g.N.Node.data_of ms l.left m (omega arith) l.invariant.0 c.index-member.ensures last in
    let h : Only c.in_err-read_entry.field-0.0 (RefusedAt (moment_cell c.args.now) (tagged_map g.T.Cased.cases c.args.fallback.now) (g.N.Node.data_of c.args.node.now)) =
    map_fails _ _ _ _ (named_by g.N.Node.data_of ms) m.key.now (g.N.Node.data_of m.node) _ (search rules) at c.in_err-read_entry.ensures in
    search rules

pub loop-left-preserved-in-Vacant : goal.loop-left-preserved-in-Vacant
loop-left-preserved-in-Vacant g c =
    let l = c.loop-left in
    let ms = c.in_ok-members-2.members.items in
    let m = c.index-member.result.now in
    let P = ShowsEntry g.T.Cased.cases c.args.fallback.now (moment_cell c.args.now) in
    let last : is_some (get_member m.key.now (named_by g.N.Node.data_of (drop l.left ms))) ≡ false =
    shown_name P g.T.Cased.choice_of m.key.now c.in_ok-name.name _ l.map false c.in_ok-name.ensures.ok l.invariant.1 (search rules) in (
      omega (arith, l.invariant.0),
      rw (one_put g.N.Node.data_of ms l.left m (omega arith) l.invariant.0 c.index-member.ensures last)
          (shown_put_as P g.T.Cased.choice_of _ c.in_ok-name.name _ c.in_ok-read_entry.field-0 _ l.map.entries _ c.in_ok-name.ensures.ok (search rules) (entry_shown _ _ _ _ _ _ c.in_ok-read_entry.ensures) l.invariant.1),
    )

pub returns : goal.returns
returns g c =
    let done : c.loop-left.left ≡ zero = omega arith in
    map_shown _ _ _ _ _ (named_by g.N.Node.data_of c.in_ok-members-2.members.items) _ (search rules)
    (subst (λ n. MembersShow (ShowsEntry g.T.Cased.cases c.args.fallback.now (moment_cell c.args.now)) (named_by g.N.Node.data_of (drop n c.in_ok-members-2.members.items)) (entries g.T.Cased.choice_of c.loop-left.map.entries)) done c.loop-left.invariant.1)
