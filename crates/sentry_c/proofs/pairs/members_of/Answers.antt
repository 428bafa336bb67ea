use Rattle.sentry_c.proofs.Joined.{no_first, no_second}
use Rattle.sentry_c.proofs.pairs.members_of.Goals as goal

pub returns-in_default : goal.returns-in_default
returns-in_default c = no_first c.args.pairs.now c.loop-pair.pair-index _ c.loop-pair-test.true c.in_default.ensures.cases.0

pub returns-in_default-from_utf8 : goal.returns-in_default-from_utf8
returns-in_default-from_utf8 c = no_second c.args.pairs.now c.loop-pair.pair-index _ c.loop-pair-test.true c.in_default-from_utf8.ensures.cases.0
