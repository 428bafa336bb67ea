use Rattle.std.proofs.Common.{◌≡◌, length, map, option_map}
use Rattle.serde_json.specs.Data.{Members}
use Rattle.sentry_json.specs.Scalars.{scalar_data}
use Rattle.sentry_json.proofs.Each.{values_at}
use Rattle.sentry_json.proofs.Flat.{ReadSoFar}
use Rattle.sentry_json.proofs.tape.flat.look_up_inside.Given as goal

-- `ms` are the members so far
abbrev pub invariant-loop-key : goal.invariant-loop-key
invariant-loop-key l = (ms : Members) × ReadSoFar l.fn.inside.text.now l.left.text.now ms 0 × (map (option_map scalar_data) l.places ≡ values_at l.keys ms)

abbrev pub decreases-loop-key : goal.decreases-loop-key
decreases-loop-key l = length l.left.text.now
