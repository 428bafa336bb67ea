use Rattle.sentry_c.proofs.Rooms.{IsPut}
use Rattle.sentry_c.proofs.output.put_parts.Given as goal

abbrev pub invariant-loop-part : goal.invariant-loop-part
invariant-loop-part l = IsPut l.parts l.initial.out l.part-index l.at l.out
