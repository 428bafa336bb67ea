use Rattle.std.proofs.Common.{◌≡◌, ◌∷◌, String, Global}
use Rattle.sentry_tables.proofs.Collections.{map_wrote}
use Rattle.sentry_tables.specs.Continued.{no_members_wrote}
use Rattle.sentry_tables.proofs.Tokens.{members_wrote}
use Rattle.sentry_tables.proofs.lists.MapStringMember.write.Goals as goal

pub loop-key-preserved : goal.loop-key-preserved
loop-key-preserved g c end rest =
    let l = c.loop-key in
    let e : String Global × g.row.T.Denot = (c.in-Some.key.now, c.in-Some.value.now) in
    let here : l.key-iterator ≡ e ∷ c.next.new.self = c.in-Some.ensures.steps in
    l.invariant end (rw here (members_wrote _ _ _ _ _ _ _ _ c.as_str.ensures.value c.in_ok-key.ensures c.in_ok-write.ensures rest))

pub returns : goal.returns
returns g c =
    let l = c.loop-key in
    map_wrote g.T.Member.kind g.T.Member.cell_of c.args.self.now.entries _ _ _ _ _ c.in_ok-begin_object.ensures (l.invariant l.out (rw c.in-None.ensures.steps.0 (no_members_wrote l.out))) c.end_object.ensures
