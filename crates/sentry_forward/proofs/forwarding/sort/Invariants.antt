use Rattle.std.proofs.Common.{◌≡◌, ◌≤◌, ◌+◌, ◌-◌, ◌++◌, List, ℕ, [], map, length, take, vec_len, vec_capacity}
use Rattle.std.specs.Vec.Iter.{into_iter_items, into_iter_len}
use Rattle.sentry_forward.specs.Forward.{joined}
use Rattle.sentry_forward.specs.View.{Sorts, joined_parts, piece_of, unless_orphaned}
use Rattle.sentry_forward.specs.declared.frames.AnyFrame.{AnyFrame}
use Rattle.sentry_forward.proofs.forwarding.sort.Given as goal

-- whatever becomes of the rest, all becomes of it
abbrev pub invariant-loop-frame : goal.invariant-loop-frame
invariant-loop-frame l = record {
  whole : (run : List ℕ) × (l.left ≡ run ++ l.rest);
  follow : l.rest ≡ joined (map piece_of (into_iter_items l.frame-iterator));
  answered : length l.told ≡ into_iter_len l.frame-iterator;
  room : into_iter_len l.frame-iterator + vec_len l.parts + 1 ≤ vec_capacity l.parts;
  room_dropped : into_iter_len l.frame-iterator + vec_len l.dropped ≤ vec_capacity l.dropped;
  goes_on : (text : List ℕ) (gone : List AnyFrame)
      → Sorts (into_iter_items l.frame-iterator) (unless_orphaned l.fn.orphaned (into_iter_items l.frame-iterator) l.told) (joined_parts l.parts.items ++ take (length l.left - length l.rest) l.left) l.dropped.items text gone
      → Sorts l.fn.frames.items (unless_orphaned l.fn.orphaned l.fn.frames.items l.fn.answers) (take (length l.fn.bytes - length l.fn.body) l.fn.bytes) [] text gone;
}
