-- Attachments and items made anew: the same, or their normal form.
use Rattle.sentry_tables.specs.declared.way.Way.{Way}
use Rattle.sentry_tables.specs.declared.way.Way.TheVariants.{Same, Normal}
use Rattle.sentry_items.specs.Attached.{Attached, attached_norm}
use Rattle.sentry_tables.specs.Norm.{norm}
use Rattle.sentry_items.specs.View.{ItemView, attachment, replay_recording, value, raw, payload_kind}

unfoldable pub attached_made : Way → Attached → Attached
attached_made Same a = a
attached_made (Normal alloc) a = attached_norm a

-- the normal form of an item: that of what it holds
abbrev pub item_norm : ItemView → ItemView
item_norm (attachment a) = attachment (attached_norm a)
item_norm (replay_recording b) = replay_recording b
item_norm (value k c) = value k (norm (payload_kind k) c)
item_norm raw = raw

unfoldable pub item_made : Way → ItemView → ItemView
item_made Same i = i
item_made (Normal alloc) i = item_norm i
