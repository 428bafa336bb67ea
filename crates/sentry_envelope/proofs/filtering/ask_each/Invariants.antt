use Rattle.std.proofs.Common.{◌≤◌, List, ◌++◌, vec_len, vec_capacity, ◌+◌}
use Rattle.std.specs.Vec.Iter.{into_iter_items, into_iter_len}
use Rattle.sentry_items.specs.declared.item.EnvelopeItem.{EnvelopeItem}
use Rattle.sentry_envelope.specs.Filter.{Asks}
use Rattle.sentry_envelope.proofs.filtering.ask_each.Given as goal

-- whatever the rest does, all does the same after what was kept so far
abbrev pub invariant-loop-item : goal.invariant-loop-item
invariant-loop-item g l = record {
  callable : g.F.EnvelopeFilter.can_filter l.filter;
  fewer : into_iter_len l.item-iterator + vec_len l.chosen ≤ vec_len l.fn.items;
  room : into_iter_len l.item-iterator + vec_len l.chosen ≤ vec_capacity l.chosen;
  goes_on : (last : g.row.F.Denot) (left : List EnvelopeItem)
      → Asks g.F.EnvelopeFilter.ask g.F.EnvelopeFilter.hand (into_iter_items l.item-iterator) l.filter last left
      → Asks g.F.EnvelopeFilter.ask g.F.EnvelopeFilter.hand l.fn.items.items l.fn.filter last (l.chosen.items ++ left);
}
