use Rattle.std.proofs.Common.{List, length, false}
use Rattle.serde_json.specs.Data.{Data}
use Rattle.sentry_json.specs.Lists.{VisitsAll}
use Rattle.sentry_json.specs.declared.tape.token.Token.{Token}
use Rattle.sentry_json.proofs.Lists.{Mean}
use Rattle.sentry_json.proofs.SoFar.{Before}
use Rattle.sentry_json.proofs.tape.Tape.visit_items.Given as goal

abbrev pub invariant-loop-rest : goal.invariant-loop-rest
invariant-loop-rest g l = (done : List Token) × (items : List Data) × Before false false false l.fn.inside.text.now l.left.text.now done 125 × Mean done items × VisitsAll g.T.Visitor.visits l.fn.visitor items l.visitor

abbrev pub decreases-loop-rest : goal.decreases-loop-rest
decreases-loop-rest g l = length l.left.text.now
