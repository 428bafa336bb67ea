-- What is lost with items.
use Rattle.std.specs.Prelude.{ℕ, ◌+◌, List, [], ◌∷◌, ◌++◌, length, sum_by, Option, Some, None}
use Rattle.std.specs.List.{flat_map}
use Rattle.sentry_event.specs.declared.transaction.Transaction.{Transaction}
use Rattle.sentry_records.specs.declared.session_aggregates.SessionAggregates.{SessionAggregates}
use Rattle.sentry_records.specs.declared.log.Log.{Log}
use Rattle.sentry_records.specs.declared.metric.Metric.{Metric}
use Rattle.sentry_reports.specs.Items.{losses_reported}
use Rattle.sentry_reports.specs.declared.report.Report.{Report}
use Rattle.sentry_items.specs.Sizes.{cut, log_size, metric_size, sessions_in}
use Rattle.sentry_items.specs.declared.container.ItemContainer.{ItemContainer}
use Rattle.sentry_items.specs.declared.container.ItemContainer.TheVariants as container
use Rattle.sentry_reports.specs.declared.category.Category.{Category}
use Rattle.sentry_reports.specs.declared.category.Category.TheVariants as category
use Rattle.sentry_items.specs.declared.attachment.Attachment.{Attachment}
use Rattle.sentry_items.specs.declared.item.EnvelopeItem.{EnvelopeItem}
use Rattle.sentry_items.specs.declared.item.EnvelopeItem.TheVariants as item
use Rattle.sentry_reports.specs.declared.item_loss.ItemLoss.{ItemLoss}
use Rattle.sentry_items.specs.declared.loss.ItemLossIter.{ItemLossIter}
use Rattle.sentry_items.specs.declared.loss.SourceLosses.{SourceLosses}
use Rattle.sentry_items.specs.declared.loss.SourceLosses.TheVariants as source

-- so much of a category, without a reason
abbrev pub loss : Category → ℕ → ItemLoss
loss category quantity = record { category = category; quantity = quantity; reason = None }

-- one of a category
abbrev pub one_of : Category → List ItemLoss
one_of category = loss category 1 ∷ []

-- counted sessions: those of all groups
abbrev pub losses_of_groups : SessionAggregates → List ItemLoss
losses_of_groups g = loss category.Session (cut (sum_by sessions_in g.aggregates.items)) ∷ []

-- a transaction: itself, its spans and the one that it is
abbrev pub losses_of_transaction : Transaction → List ItemLoss
losses_of_transaction t = loss category.Transaction 1 ∷ loss category.Span (length t.spans.items + 1) ∷ []

-- logs: how many, and how large they are together
abbrev pub losses_of_logs : List Log → List ItemLoss
losses_of_logs logs = loss category.LogItem (length logs) ∷ loss category.LogByte (cut (sum_by log_size logs)) ∷ []

-- metrics: how many, and how large they are together
abbrev pub losses_of_metrics : List Metric → List ItemLoss
losses_of_metrics metrics = loss category.TraceMetric (length metrics) ∷ loss category.TraceMetricByte (cut (sum_by metric_size metrics)) ∷ []

abbrev pub losses_of_container : ItemContainer → List ItemLoss
losses_of_container (container.Logs logs) = losses_of_logs logs.items
losses_of_container (container.Metrics metrics) = losses_of_metrics metrics.items

-- a log or a metric alone: a list of one
abbrev pub losses_of_log : Log → List ItemLoss
losses_of_log log = losses_of_logs (log ∷ [])

abbrev pub losses_of_metric : Metric → List ItemLoss
losses_of_metric metric = losses_of_metrics (metric ∷ [])

-- a report: a loss for each of its items, in order, with its reason
abbrev pub losses_of_report : Report → List ItemLoss
losses_of_report r = losses_reported r.items

-- an attachment: its bytes
abbrev pub losses_of_attachment : Attachment → List ItemLoss
losses_of_attachment a = loss category.Attachment (length a.buffer.items) ∷ []

-- what is lost with an item
abbrev pub losses_of_item : EnvelopeItem → List ItemLoss
losses_of_item (item.Event b) = one_of category.Error
losses_of_item (item.SessionUpdate s) = one_of category.Session
losses_of_item (item.SessionAggregates g) = losses_of_groups g
losses_of_item (item.Transaction b) = losses_of_transaction b.value
losses_of_item (item.Attachment a) = losses_of_attachment a
losses_of_item (item.MonitorCheckIn c) = one_of category.Monitor
losses_of_item (item.UserReport r) = one_of category.Feedback
losses_of_item (item.ReplayRecording r) = one_of category.Replay
losses_of_item (item.ItemContainer c) = losses_of_container c
losses_of_item (item.ClientReport r) = losses_of_report r
losses_of_item item.Raw = []

-- what is lost with items: the losses of each, in order
abbrev pub losses_of_items : List EnvelopeItem → List ItemLoss
losses_of_items items = flat_map losses_of_item items

abbrev pub one_or_none : Option ItemLoss → List ItemLoss
one_or_none None = []
one_or_none (Some one) = one ∷ []

-- the losses that are left of one source
abbrev pub source_left : SourceLosses → List ItemLoss
source_left (source.Pair next after) = one_or_none next ++ one_or_none after
source_left (source.Listed losses) = losses.now
source_left (source.Reported items) = losses_reported items.now

-- the losses that an iterator has left: of the source it is at, and of each item after it
abbrev pub losses_left : ItemLossIter → List ItemLoss
losses_left iter = source_left iter.source ++ losses_of_items iter.items.now
