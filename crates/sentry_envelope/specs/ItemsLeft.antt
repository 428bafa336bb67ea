-- What the iterators over an envelope's items have left.
use Rattle.std.specs.Prelude.{List}
use Rattle.std.specs.Vec.Iter.{into_iter_items}
use Rattle.sentry_items.specs.declared.item.EnvelopeItem.{EnvelopeItem}
use Rattle.sentry_envelope.specs.declared.items.EnvelopeItemIter.{EnvelopeItemIter}
use Rattle.sentry_envelope.specs.declared.items.IntoItems.{IntoItems}

abbrev pub items_left : EnvelopeItemIter → List EnvelopeItem
items_left iter = iter.items.now

abbrev pub owned_items_left : IntoItems → List EnvelopeItem
owned_items_left iter = into_iter_items iter.items
