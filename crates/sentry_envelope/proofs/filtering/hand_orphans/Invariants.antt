use Rattle.std.proofs.Common.{◌≡◌, ◌≤◌, ◌++◌, map, not, filter, vec_len, vec_capacity, ◌+◌}
use Rattle.std.specs.Vec.Iter.{into_iter_items, into_iter_len}
use Rattle.sentry_envelope.specs.Filter.{Run, Hand, is_orphan}
use Rattle.sentry_envelope.proofs.filtering.hand_orphans.Given as goal

abbrev pub invariant-loop-item : goal.invariant-loop-item
invariant-loop-item g l = record {
  callable : g.F.EnvelopeFilter.can_filter l.filter;
  room : into_iter_len l.item-iterator + vec_len l.others ≤ vec_capacity l.others;
  others : l.others.items ++ filter (λ item. not (is_orphan item)) (into_iter_items l.item-iterator) ≡ filter (λ item. not (is_orphan item)) l.fn.chosen.items;
  goes_on : (last : g.row.F.Denot)
      → Run g.F.EnvelopeFilter.ask g.F.EnvelopeFilter.hand l.filter (map Hand (filter is_orphan (into_iter_items l.item-iterator))) last
      → Run g.F.EnvelopeFilter.ask g.F.EnvelopeFilter.hand l.fn.filter (map Hand (filter is_orphan l.fn.chosen.items)) last;
}
