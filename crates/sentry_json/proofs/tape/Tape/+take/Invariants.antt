use Rattle.std.proofs.Common.{◌≡◌, ◌++◌, ◌∷◌, ◌≤◌, List, length, not, ◌==◌, ◌+◌, ◌*◌}
use Rattle.sentry_json.specs.Tokens.{kept}
use Rattle.sentry_json.specs.declared.tape.token.Token.{Token}
use Rattle.sentry_json.proofs.SoFar.{bracket, Before}
use Rattle.sentry_json.proofs.tape.Tape.+take.Given as goal

abbrev pub decreases-take_value : goal.decreases-take_value
decreases-take_value g l = 3 * l.depth + 2

abbrev pub decreases-take_nested : goal.decreases-take_nested
decreases-take_nested g l = 3 * l.depth + 1

abbrev pub decreases-take_inside : goal.decreases-take_inside
decreases-take_inside g l = 3 * l.depth

abbrev pub invariant-take_inside-loop-next : goal.invariant-take_inside-loop-next
invariant-take_inside-loop-next g l = (done : List Token) × (l.self.tokens.items ≡ l.fn.self.tokens.items ++ kept (not (g.row.KEPT == 0)) (bracket l.fn.object 0 ∷ done)) × Before (not (g.row.FLOATS == 0)) l.fn.object l.key l.fn.text.text.now l.left.text.now done l.depth × (length l.left.text.now ≤ length l.fn.text.text.now)

abbrev pub decreases-take_inside-loop-next : goal.decreases-take_inside-loop-next
decreases-take_inside-loop-next g l = length l.left.text.now
