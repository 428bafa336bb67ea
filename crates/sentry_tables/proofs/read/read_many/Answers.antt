use Rattle.std.proofs.Common.{◌≡◌, take, arith, rules, string_cmp, Ok, ◌∙◌}
use Rattle.std.proofs.lemmas.Iterator.Adapters.{fact_from_collect, YieldsList-from_vec}
use Rattle.std.proofs.lemmas.List.{take_all}
use Rattle.std.specs.BTreeMap.{IsFromIterResult}
use Rattle.std.specs.declared.alloc.AllocError.{AllocError}
use Rattle.sentry_tables.specs.Shows.{Shows}
use Rattle.sentry_tables.proofs.ListsShown.{shown_when}
use Rattle.sentry_tables.proofs.ManyShown.{pairs_more_at, made_shown}
use Rattle.sentry_tables.proofs.read.read_many.Goals as goal

pub loop-member-preserved : goal.loop-member-preserved
loop-member-preserved g c = λ now.
    let all : c.deref-member-items.result.now ≡ c.args.members.items = search rules in
    pairs_more_at (λ key. Shows g.T.Member.kind now) g.N.Node.data_of g.T.Member.cell_of c.args.members.items c.loop-member.member-index c.member-item.result _ _ c.in_ok-name.name c.in_ok-from_node.field-0 (omega arith) (rw all at c.member-item.is) c.in_ok-push.ensures.items
    (c.loop-member.invariant now) c.in_ok-name.ensures.ok (shown_when now _ _ _ c.in_ok-from_node.ensures)

pub returns : goal.returns
returns g c =
    let ms = c.args.members.items in
    let all : take c.loop-member.member-index ms ≡ ms = take_all c.loop-member.member-index ms (omega arith) in
    let made : IsFromIterResult string_cmp c.loop-member.pairs.items c.in_ok-collect.field-0 =
    fact_from_collect {E = AllocError} (IsFromIterResult string_cmp) (Ok c.in_ok-collect.field-0) c.in_ok-collect.ensures.ran (YieldsList-from_vec c.loop-member.pairs.items c.into_iter.ensures.rest (c.into_iter.ensures.len ∙ c.loop-member.pairs.ok.0)) in
    let shows = rw all at c.loop-member.invariant in
    λ now. made_shown (λ key. Shows g.T.Member.kind now) g.N.Node.data_of g.T.Member.cell_of ms c.loop-member.pairs.items c.in_ok-collect.field-0 (shows now) made
