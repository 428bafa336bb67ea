-- The types of items, and the words that stand for them in item headers.
use Rattle.std.specs.Prelude.{ℕ, List, [], ◌∷◌, Option, map, find, codes}
use Rattle.std.specs.Str.{bytes_eq}
use Rattle.sentry_framing.specs.declared.kind.ItemKind.{ItemKind}
use Rattle.sentry_framing.specs.declared.kind.ItemKind.TheVariants as kind

-- the word of each type of item
abbrev pub kind_word : ItemKind → List ℕ
kind_word kind.Event = codes "event"
kind_word kind.SessionUpdate = codes "session"
kind_word kind.SessionAggregates = codes "sessions"
kind_word kind.Transaction = codes "transaction"
kind_word kind.Attachment = codes "attachment"
kind_word kind.MonitorCheckIn = codes "check_in"
kind_word kind.UserReport = codes "user_report"
kind_word kind.ReplayRecording = codes "replay_recording"
kind_word kind.Logs = codes "log"
kind_word kind.Metrics = codes "trace_metric"
kind_word kind.ClientReport = codes "client_report"

-- all types, in order
abbrev pub item_kinds : List ItemKind
item_kinds =
    kind.Event ∷ kind.SessionUpdate ∷ kind.SessionAggregates ∷ kind.Transaction ∷ kind.Attachment ∷ kind.MonitorCheckIn ∷
    kind.UserReport ∷ kind.ReplayRecording ∷ kind.Logs ∷ kind.Metrics ∷ kind.ClientReport ∷ []

-- their words
abbrev pub item_words : List (List ℕ)
item_words = map kind_word item_kinds

-- the type that a word stands for, if it stands for one
abbrev pub kind_of_word : List ℕ → Option ItemKind
kind_of_word word = find (λ k. bytes_eq word (kind_word k)) item_kinds

-- where the word of a type stands in that list
abbrev pub kind_place : ItemKind → ℕ
kind_place kind.Event = 0
kind_place kind.SessionUpdate = 1
kind_place kind.SessionAggregates = 2
kind_place kind.Transaction = 3
kind_place kind.Attachment = 4
kind_place kind.MonitorCheckIn = 5
kind_place kind.UserReport = 6
kind_place kind.ReplayRecording = 7
kind_place kind.Logs = 8
kind_place kind.Metrics = 9
kind_place kind.ClientReport = 10
