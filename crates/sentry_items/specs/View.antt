-- What the values of this crate mean.
use Rattle.std.specs.Prelude.{ℕ, List, Option, Some, None, codes, option_map, string_bytes}
use Rattle.sentry_tables.specs.Cell.{Cell}
use Rattle.sentry_tables.specs.Kind.{Kind, tagged, no_cases}
use Rattle.sentry_event.specs.Events.{event_cell, event_kind}
use Rattle.sentry_event.specs.Transactions.{transaction_cell, transaction_kind}
use Rattle.sentry_records.specs.Logs.{log_kind}
use Rattle.sentry_records.specs.Metrics.{metric_kind}
use Rattle.sentry_records.specs.Monitors.{check_in_cell, check_in_kind}
use Rattle.sentry_records.specs.Sessions.{groups_cell, groups_kind, session_cell, session_kind}
use Rattle.sentry_records.specs.UserReports.{user_report_cell, user_report_kind}
use Rattle.sentry_reports.specs.Reports.{report_cell, report_kind}
use Rattle.sentry_framing.specs.declared.kind.ItemKind.{ItemKind}
use Rattle.sentry_framing.specs.declared.kind.ItemKind.TheVariants as kinds
use Rattle.sentry_items.specs.Attached.{Attached}
use Rattle.sentry_items.specs.AttachmentWords.{known, custom}
use Rattle.sentry_items.specs.Containers.{container_cell, container_kind, container_type}
use Rattle.sentry_items.specs.declared.attachment.Attachment.{Attachment}
use Rattle.sentry_items.specs.declared.attachment_type.AttachmentType.{AttachmentType}
use Rattle.sentry_items.specs.declared.attachment_type.AttachmentType.TheVariants as variants
use Rattle.sentry_items.specs.declared.item.EnvelopeItem.{EnvelopeItem}
use Rattle.sentry_items.specs.declared.item.EnvelopeItem.TheVariants as item_variants

-- a known type is its word, and a custom one its text
abbrev pub attachment_type_cell : AttachmentType → Cell
attachment_type_cell variants.Attachment = known (codes "event.attachment")
attachment_type_cell variants.Minidump = known (codes "event.minidump")
attachment_type_cell variants.AppleCrashReport = known (codes "event.applecrashreport")
attachment_type_cell variants.UnrealContext = known (codes "unreal.context")
attachment_type_cell variants.UnrealLogs = known (codes "unreal.logs")
attachment_type_cell (variants.Custom text) = custom (string_bytes text)

-- an attachment by its bytes and its texts
abbrev pub attachment_view : Attachment → Attached
attachment_view a = record {
  buffer = a.buffer.items;
  filename = string_bytes a.filename;
  content_type = option_map string_bytes a.content_type;
  ty = option_map attachment_type_cell a.ty;
}

-- ---- items

pub data ItemView : Type 0 where
  attachment : Attached → ItemView
  -- the bytes of a recording
  replay_recording : List ℕ → ItemView
  -- a value of the type, whose payload is JSON
  value : ItemKind → Cell → ItemView
  raw : ItemView

-- an item by what it holds
abbrev pub item_held : EnvelopeItem → ItemView
item_held (item_variants.Event b) = value kinds.Event (event_cell b.value)
item_held (item_variants.SessionUpdate s) = value kinds.SessionUpdate (session_cell s)
item_held (item_variants.SessionAggregates g) = value kinds.SessionAggregates (groups_cell g)
item_held (item_variants.Transaction b) = value kinds.Transaction (transaction_cell b.value)
item_held (item_variants.Attachment a) = attachment (attachment_view a)
item_held (item_variants.MonitorCheckIn c) = value kinds.MonitorCheckIn (check_in_cell c)
item_held (item_variants.UserReport r) = value kinds.UserReport (user_report_cell r)
item_held (item_variants.ReplayRecording r) = replay_recording r.buffer.items
item_held (item_variants.ItemContainer c) = value (container_type c) (container_cell c)
item_held (item_variants.ClientReport r) = value kinds.ClientReport (report_cell r)
item_held item_variants.Raw = raw

-- the type of an item; a raw one has none
abbrev pub kind_held : ItemView → Option ItemKind
kind_held (attachment a) = Some kinds.Attachment
kind_held (replay_recording b) = Some kinds.ReplayRecording
kind_held (value k c) = Some k
kind_held raw = None

-- the kind of the JSON in the payloads of a type; of a type whose payload is other bytes it is one
-- that no tree shows
abbrev pub payload_kind : ItemKind → Kind
payload_kind kinds.Event = event_kind
payload_kind kinds.SessionUpdate = session_kind
payload_kind kinds.SessionAggregates = groups_kind
payload_kind kinds.Transaction = transaction_kind
payload_kind kinds.Attachment = tagged no_cases
payload_kind kinds.MonitorCheckIn = check_in_kind
payload_kind kinds.UserReport = user_report_kind
payload_kind kinds.ReplayRecording = tagged no_cases
payload_kind kinds.Logs = container_kind log_kind
payload_kind kinds.Metrics = container_kind metric_kind
payload_kind kinds.ClientReport = report_kind
