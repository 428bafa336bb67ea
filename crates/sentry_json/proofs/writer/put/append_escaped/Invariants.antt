use Rattle.std.proofs.Common.{◌≡◌, ◌+◌, ◌≤◌, [], ◌∷◌, ◌++◌, ◌-◌, length, take, drop, cond}
use Rattle.json.specs.Print.{escape}
use Rattle.sentry_json.proofs.writer.put.append_escaped.Given as goal

-- what is appended and what is left make the whole
abbrev pub invariant-loop-out : goal.invariant-loop-out
invariant-loop-out l =
    (l.at ≤ length l.text)
    × (l.out.items ++ (escape (drop l.at l.text) ++ l.close) ≡ l.fn.out.items ++ (cond l.comma (44 ∷ []) [] ++ 34 ∷ (escape l.text ++ l.close)))
    × (take (length l.fn.out.items) l.out.items ≡ l.fn.out.items)
    × (length l.fn.out.items + l.fn.out.spare ≤ length l.out.items + l.out.spare)

abbrev pub decreases-loop-out : goal.decreases-loop-out
decreases-loop-out l = length l.text - l.at
