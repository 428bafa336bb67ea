use Rattle.std.proofs.Common.{rules, ◌≤◌, [], refl, append-nil, length}
use Rattle.std.proofs.lemmas.List.{drop_all}
use Rattle.sentry_forward.proofs.forwarding.ask_each.Goals as goal

pub returns-clause-asked : goal.returns-clause-asked
returns-clause-asked g c =
    let past : length c.args.frames.now ≤ c.loop-frame.frame-index = search rules in
    let none = drop_all _ c.args.frames.now past in
    rw append-nil at (c.loop-frame.invariant.goes_on [] c.loop-frame.filter (rw none refl))
