-- What is lost with an envelope.
use Rattle.std.specs.Prelude.{List, [], Option, Some, None}
use Rattle.sentry_items.specs.Losses.{losses_of_items}
use Rattle.sentry_reports.specs.declared.item_loss.ItemLoss.{ItemLoss}
use Rattle.sentry_envelope.specs.EnvelopeView.{items_of}
use Rattle.sentry_envelope.specs.declared.envelope.Envelope.{Envelope}

-- the losses of its items, in order; a raw envelope has none
abbrev pub losses_of_envelope : Envelope → List ItemLoss
losses_of_envelope envelope = losses_of_items (items_of envelope)

-- the losses of what is left of an envelope: none where nothing is left
abbrev pub losses_of_left : Option Envelope → List ItemLoss
losses_of_left None = []
losses_of_left (Some envelope) = losses_of_envelope envelope
