use Rattle.std.proofs.Common.{length, ◌≤◌}
use Rattle.sentry_json.specs.Spelled.{IsSpaced}
use Rattle.sentry_json.proofs.tape.rest.Rest.skip_spaces.Given as goal

abbrev pub invariant-loop-next : goal.invariant-loop-next
invariant-loop-next l = IsSpaced l.fn.self.text.now l.rest.text.now × (length l.rest.text.now ≤ length l.fn.self.text.now)

abbrev pub decreases-loop-next : goal.decreases-loop-next
decreases-loop-next l = length l.rest.text.now
