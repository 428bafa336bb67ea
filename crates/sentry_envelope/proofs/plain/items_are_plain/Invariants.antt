use Rattle.std.proofs.Common.{◌↔◌, drop}
use Rattle.std.specs.Prelude.{map}
use Rattle.sentry_envelope.specs.Envelope.{plain_content, stored_content, ItemsMeet}
use Rattle.sentry_envelope.specs.EnvelopeView.{item_view}
use Rattle.sentry_envelope.specs.SentryProfile.{item_types}
use Rattle.sentry_envelope.proofs.plain.items_are_plain.Given as goal

abbrev pub invariant-loop-item : goal.invariant-loop-item
invariant-loop-item l =
    record {
      plain : ItemsMeet plain_content item_types (map item_view l.items) ↔ ItemsMeet plain_content item_types (map item_view (drop l.item-index l.items));
      stored : ItemsMeet stored_content item_types (map item_view (drop l.item-index l.items)) → ItemsMeet stored_content item_types (map item_view l.items);
    }
