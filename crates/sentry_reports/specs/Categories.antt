-- What is counted as lost, and why: each category and each reason with its word and its place.
use Rattle.std.specs.Prelude.{◌≡◌, refl, ℕ, List, [], ◌∷◌, Option, Some, codes, slice_get}
use Rattle.sentry_tables.specs.Kind.{Kind}
use Rattle.sentry_tables.specs.Spelling.{Spelling, enumeration, spelled_kind}
use Rattle.sentry_words.specs.Lookup.{lookup, by_word}
use Rattle.sentry_reports.specs.declared.category.Category.{Category}
use Rattle.sentry_reports.specs.declared.category.Category.TheVariants as category
use Rattle.sentry_reports.specs.declared.reason.Reason.{Reason}
use Rattle.sentry_reports.specs.declared.reason.Reason.TheVariants as reason

abbrev pub category_word : Category → List ℕ
category_word category.Error = codes "error"
category_word category.Session = codes "session"
category_word category.Transaction = codes "transaction"
category_word category.Span = codes "span"
category_word category.Attachment = codes "attachment"
category_word category.Monitor = codes "monitor"
category_word category.LogItem = codes "log_item"
category_word category.LogByte = codes "log_byte"
category_word category.TraceMetric = codes "trace_metric"
category_word category.TraceMetricByte = codes "trace_metric_byte"
category_word category.Feedback = codes "feedback"
category_word category.Replay = codes "replay"

abbrev pub reason_word : Reason → List ℕ
reason_word reason.SendError = codes "send_error"
reason_word reason.InternalSdkError = codes "internal_sdk_error"
reason_word reason.NetworkError = codes "network_error"
reason_word reason.RatelimitBackoff = codes "ratelimit_backoff"
reason_word reason.QueueOverflow = codes "queue_overflow"
reason_word reason.BufferOverflow = codes "buffer_overflow"
reason_word reason.EventProcessor = codes "event_processor"
reason_word reason.BeforeSend = codes "before_send"
reason_word reason.SampleRate = codes "sample_rate"

-- all categories in order, from index 0 on
abbrev pub categories : List Category
categories =
    category.Error ∷ category.Session ∷ category.Transaction ∷ category.Span ∷ category.Attachment ∷ category.Monitor ∷
    category.LogItem ∷ category.LogByte ∷ category.TraceMetric ∷ category.TraceMetricByte ∷ category.Feedback ∷ category.Replay ∷ []

-- all reasons in order, from index 0 on
abbrev pub reasons : List Reason
reasons =
    reason.SendError ∷ reason.InternalSdkError ∷ reason.NetworkError ∷ reason.RatelimitBackoff ∷ reason.QueueOverflow ∷
    reason.BufferOverflow ∷ reason.EventProcessor ∷ reason.BeforeSend ∷ reason.SampleRate ∷ []

-- the place of a category in that order
abbrev pub category_index : Category → ℕ
category_index category.Error = 0
category_index category.Session = 1
category_index category.Transaction = 2
category_index category.Span = 3
category_index category.Attachment = 4
category_index category.Monitor = 5
category_index category.LogItem = 6
category_index category.LogByte = 7
category_index category.TraceMetric = 8
category_index category.TraceMetricByte = 9
category_index category.Feedback = 10
category_index category.Replay = 11

pub category_in_place : (x : Category) → slice_get categories (category_index x) ≡ Some x
category_in_place category.Error = refl
category_in_place _ = refl

-- the place of a reason in that order
abbrev pub reason_index : Reason → ℕ
reason_index reason.SendError = 0
reason_index reason.InternalSdkError = 1
reason_index reason.NetworkError = 2
reason_index reason.RatelimitBackoff = 3
reason_index reason.QueueOverflow = 4
reason_index reason.BufferOverflow = 5
reason_index reason.EventProcessor = 6
reason_index reason.BeforeSend = 7
reason_index reason.SampleRate = 8

pub reason_in_place : (x : Reason) → slice_get reasons (reason_index x) ≡ Some x
reason_in_place reason.SendError = refl
reason_in_place _ = refl

-- what a category is read from
abbrev pub category_words : List (List ℕ × Category)
category_words = by_word category_word categories

abbrev pub category_of : List ℕ → Option Category
category_of = lookup category_words

abbrev pub category_spelling : Spelling
category_spelling = enumeration category_of category_word

abbrev pub category_kind : Kind
category_kind = spelled_kind category_spelling

-- what a reason is read from
abbrev pub reason_words : List (List ℕ × Reason)
reason_words = by_word reason_word reasons

abbrev pub reason_of : List ℕ → Option Reason
reason_of = lookup reason_words

abbrev pub reason_spelling : Spelling
reason_spelling = enumeration reason_of reason_word

abbrev pub reason_kind : Kind
reason_kind = spelled_kind reason_spelling
