use Rattle.std.proofs.Common.{SFits, w32, w64, subst, ◌∙◌, rules, to_z-of_z}
use Rattle.sentry_tables.proofs.ScalarsShown.{i32_refused, i32_shown, i32_too_wide}
use Rattle.sentry_tables.proofs.read.I32FromTree.from_node.Goals as goal

pub returns-in-Ok : goal.returns-in-Ok
returns-in-Ok g c =
    let fits : SFits w64 c.in-Some.number = search rules in
    let small : SFits w32 c.in-Ok.number = search rules in
    let same = c.in-Ok.ensures.1 ∙ to_z-of_z fits in
    rw (to_z-of_z small, same) (i32_shown c.in-Some.number _ (search rules) (subst (SFits w32) same small))

pub returns-in-Err : goal.returns-in-Err
returns-in-Err g c =
    let fits : SFits w64 c.in-Some.number = search rules in
    i32_too_wide c.in-Some.number _ (search rules) (rw (to_z-of_z fits) at c.in-Err.ensures)

pub returns-in-None : goal.returns-in-None
returns-in-None g c = i32_refused _ (search rules)
