use Rattle.std.proofs.Common.{◌≡◌, option_map, map}
use Rattle.serde_json.specs.Find.{get}
use Rattle.serde_json.specs.View.{view}
use Rattle.sentry_json.proofs.Each.{given_to}
use Rattle.sentry_json.proofs.node.RefValueNode.get_each.Given as goal

abbrev pub invariant-loop-i : goal.invariant-loop-i
invariant-loop-i l = map (option_map (λ tree. view tree.now)) l.places ≡ given_to (λ key. get key.now (view l.self.now)) l.i l.keys
