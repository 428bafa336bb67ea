-- The words of a check-in's status.
use Rattle.std.specs.Prelude.{ℕ, List, [], ◌∷◌, Some, unwrap_or, codes}
use Rattle.sentry_tables.specs.Kind.{Kind}
use Rattle.sentry_tables.specs.Spelling.{Spelling, enumeration, spelled_kind}
use Rattle.sentry_words.specs.Lookup.{lookup, by_word}
use Rattle.sentry_words.specs.declared.monitor_check_in_status.MonitorCheckInStatus.{MonitorCheckInStatus}
use Rattle.sentry_words.specs.declared.monitor_check_in_status.MonitorCheckInStatus.TheVariants as check_in_status

abbrev pub check_in_status_word : MonitorCheckInStatus → List ℕ
check_in_status_word check_in_status.Ok = codes "ok"
check_in_status_word check_in_status.Error = codes "error"
check_in_status_word check_in_status.InProgress = codes "in_progress"
check_in_status_word check_in_status.Missed = codes "missed"
check_in_status_word check_in_status.Unknown = codes "unknown"

-- what is read
abbrev pub check_in_status_words : List (List ℕ × MonitorCheckInStatus)
check_in_status_words = by_word check_in_status_word (check_in_status.Ok ∷ check_in_status.Error ∷ check_in_status.InProgress ∷ check_in_status.Missed ∷ check_in_status.Unknown ∷ [])

-- what a text is read as: any other text is unknown
abbrev pub check_in_status_of : List ℕ → MonitorCheckInStatus
check_in_status_of text = unwrap_or (lookup check_in_status_words text) check_in_status.Unknown

abbrev pub check_in_status_spelling : Spelling
check_in_status_spelling = enumeration (λ text. Some (check_in_status_of text)) check_in_status_word

abbrev pub check_in_status_kind : Kind
check_in_status_kind = spelled_kind check_in_status_spelling
