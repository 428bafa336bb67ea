use Rattle.std.proofs.Common.{◌≡◌, ◌++◌, drop}
use Rattle.std.specs.Prelude.{map}
use Rattle.sentry_envelope.specs.Envelope.{envelope_text, items_text}
use Rattle.sentry_envelope.specs.EnvelopeView.{item_view, AreStoredAndPlain, IsStoredAndPlain}
use Rattle.sentry_envelope.specs.HeaderFields.{header_kind, headers_cell}
use Rattle.sentry_envelope.specs.SentryProfile.{profile}
use Rattle.sentry_items.specs.Texts.{bytes_of}
use Rattle.sentry_envelope.proofs.write.write_envelope.Given as goal

abbrev pub invariant-loop-item : goal.invariant-loop-item
invariant-loop-item l = IsStoredAndPlain header_kind (headers_cell l.headers) × AreStoredAndPlain (map item_view l.items)
    → AreStoredAndPlain (map item_view (drop l.item-index l.items))
    × (bytes_of l.text ++ items_text profile (map item_view (drop l.item-index l.items)) ≡ envelope_text profile (record { header = headers_cell l.headers; items = map item_view l.items }))
