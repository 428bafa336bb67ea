use Rattle.std.proofs.Common.{◌≡◌, ◌++◌, drop, map}
use Rattle.sentry_framing.specs.View.{frame_of}
use Rattle.sentry_making.specs.Making.{envelope_text, items_text}
use Rattle.sentry_making.proofs.Framed.{IsAlike}
use Rattle.sentry_making.proofs.making.make_envelope.Given as goal

-- with the items that are left the text is whole, and what is left has to be items
abbrev pub invariant-loop-item : goal.invariant-loop-item
invariant-loop-item l = record {
  whole : l.text.items ++ items_text (map frame_of (drop l.item-index l.items)) ≡ envelope_text l.header (map frame_of l.items);
  are : IsAlike (map frame_of (drop l.item-index l.items)) (map frame_of l.items);
}
