use Rattle.std.proofs.Common.{length}
use Rattle.sentry_json.proofs.Replaced.{Keeps, Replaces}
use Rattle.sentry_json.proofs.tape.judge.stands_in.Given as goal

-- whatever the rest does with the key, all do
abbrev pub invariant-loop-name : goal.invariant-loop-name
invariant-loop-name l = (Replaces l.key l.rest → Replaces l.key l.tokens) × (Keeps l.key l.rest → Keeps l.key l.tokens)

abbrev pub decreases-loop-name : goal.decreases-loop-name
decreases-loop-name l = length l.rest
