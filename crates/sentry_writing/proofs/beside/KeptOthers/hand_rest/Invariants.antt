use Rattle.serde_json.specs.View.{members_view}
use Rattle.sentry_writing.specs.Sinks.{others_left}
use Rattle.sentry_writing.proofs.beside.KeptOthers.hand_rest.Given as goal

-- whatever hands on the rest hands on all
abbrev pub invariant-loop-name : goal.invariant-loop-name
invariant-loop-name g l =
    (end : g.row.S.Denot) → g.S.Sink.Adds l.sink end (members_view l.name-iterator) → g.S.Sink.Adds l.fn.sink end (others_left l.fn.self.next l.fn.self.rest)
