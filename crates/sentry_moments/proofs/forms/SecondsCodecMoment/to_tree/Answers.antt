use Rattle.std.proofs.Common.{arith}
use Rattle.sentry_moments.proofs.MomentsWritten.{part_tree}
use Rattle.sentry_moments.proofs.forms.SecondsCodecMoment.to_tree.Goals as goal

pub returns-else-nanos-eq0 : goal.returns-else-nanos-eq0
returns-else-nanos-eq0 c = part_tree c.args.value.now c.to_tree.result c.to_tree.ensures (λ none. omega arith)
