use Rattle.std.proofs.Common.{◌≡◌}
use Rattle.serde_json.specs.Data.{Members}
use Rattle.serde_json.specs.Events.{members_len}
use Rattle.sentry_writing.specs.Given.{both}
use Rattle.sentry_writing.specs.Sinks.{others_left}
use Rattle.sentry_writing.proofs.Merging.{AllBelow}
use Rattle.sentry_writing.proofs.beside.KeptOthers.hand_before.Given as goal

-- members of smaller keys were handed on, and the others are left
abbrev pub invariant-loop-self : goal.invariant-loop-self
invariant-loop-self g l = record {
  handed_on : Members;
  adds : g.S.Sink.Adds l.initial.sink l.sink handed_on;
  below : AllBelow l.key handed_on;
  split : others_left l.initial.self.next l.initial.self.rest ≡ both handed_on (others_left l.self.next l.self.rest);
}

abbrev pub decreases-loop-self : goal.decreases-loop-self
decreases-loop-self g l = members_len (others_left l.self.next l.self.rest)
