use Rattle.std.proofs.lemmas.Result.{IfOk-weaker}
use Rattle.sentry_words.proofs.UnitLaws.{known_normal, other_normal}
use Rattle.sentry_words.proofs.unit.UnitSpelled.respell.Goals as goal

pub returns-in-Some : goal.returns-in-Some
returns-in-Some c = known_normal _ c.args.way c.args.self.now c.in-Some.unit c.as_str.result.now c.known.result c.in-Normal.is c.in-Some.is c.known.ensures c.as_str.ensures

pub returns-in-None : goal.returns-in-None
returns-in-None c =
    IfOk-weaker c.clone-in-None.result _ _
    (λ v same. other_normal _ c.args.way c.args.self.now v c.as_str.result.now c.known.result c.in-Normal.is c.in-None.is c.known.ensures c.as_str.ensures same)
    c.clone-in-None.ensures
