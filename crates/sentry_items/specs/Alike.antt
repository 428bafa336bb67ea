-- Which items `==` does not tell apart.
use Rattle.std.specs.Prelude.{◌≡◌, ⊤}
use Rattle.sentry_reports.specs.Reports.{AreReportsAlike}
use Rattle.sentry_framing.specs.declared.kind.ItemKind.{ItemKind}
use Rattle.sentry_framing.specs.declared.kind.ItemKind.TheVariants as kinds
use Rattle.sentry_records.specs.Sessions.{IsStoredAddress}
use Rattle.sentry_items.specs.declared.item.EnvelopeItem.{EnvelopeItem}
use Rattle.sentry_items.specs.declared.item.EnvelopeItem.TheVariants as item
use Rattle.sentry_items.specs.View.{ItemView, attachment, replay_recording, value, raw, item_held}

-- items of the type hold no trees of JSON
abbrev pub HasNoTrees : ItemKind → Type 0
HasNoTrees kinds.Event = ⊥
HasNoTrees kinds.Transaction = ⊥
HasNoTrees kinds.Logs = ⊥
HasNoTrees kinds.Metrics = ⊥
HasNoTrees _ = ⊤

-- no tree of JSON stands in the item: of `==` on trees nothing is said
abbrev pub HoldsNoTree : ItemView → Type 0
HoldsNoTree (attachment a) = ⊤
HoldsNoTree (replay_recording b) = ⊤
HoldsNoTree (value k c) = HasNoTrees k
HoldsNoTree raw = ⊤

-- the address of a user that the item tells, where it tells one, has numbers in range, as every
-- address of a program
abbrev pub HasStoredAddress : EnvelopeItem → Type 0
HasStoredAddress (item.SessionUpdate s) = IsStoredAddress s.attributes
HasStoredAddress (item.SessionAggregates g) = IsStoredAddress g.attributes
HasStoredAddress _ = ⊤

-- two reports are alike by their moments and sums, and any other two items where they are of one
-- type and hold the same
abbrev pub AreAlike : EnvelopeItem → EnvelopeItem → Type 0
AreAlike (item.ClientReport a) (item.ClientReport b) = AreReportsAlike a b
AreAlike a b = item_held a ≡ item_held b
