use Rattle.std.proofs.Common.{rules, sym}
use Rattle.sentry_envelope.proofs.filtering.hand_orphans.Goals as goal

pub loop-item-preserved-then-is_orphan : goal.loop-item-preserved-then-is_orphan
loop-item-preserved-then-is_orphan g c = record {
  callable = search rules;
  room = search rules;
  others = search rules;
  goes_on = λ last rest.
      c.loop-item.invariant.goes_on last (rw (c.in-Some.ensures.steps.0, sym c.if-is_orphan.ensures) (c.on_filtered.new.self, c.on_filtered.ensures, rest));
}
