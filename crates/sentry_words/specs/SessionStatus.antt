-- The words of a session's status.
use Rattle.std.specs.Prelude.{ℕ, List, [], ◌∷◌, Option, codes}
use Rattle.sentry_tables.specs.Kind.{Kind}
use Rattle.sentry_tables.specs.Spelling.{Spelling, enumeration, spelled_kind}
use Rattle.sentry_words.specs.Lookup.{lookup, by_word}
use Rattle.sentry_words.specs.declared.session_status.SessionStatus.{SessionStatus}
use Rattle.sentry_words.specs.declared.session_status.SessionStatus.TheVariants as session_status

abbrev pub session_status_word : SessionStatus → List ℕ
session_status_word session_status.Ok = codes "ok"
session_status_word session_status.Exited = codes "exited"
session_status_word session_status.Crashed = codes "crashed"
session_status_word session_status.Abnormal = codes "abnormal"

-- what is read
abbrev pub session_status_words : List (List ℕ × SessionStatus)
session_status_words = by_word session_status_word (session_status.Ok ∷ session_status.Exited ∷ session_status.Crashed ∷ session_status.Abnormal ∷ [])

-- what a text is read as
abbrev pub session_status_of : List ℕ → Option SessionStatus
session_status_of = lookup session_status_words

abbrev pub session_status_spelling : Spelling
session_status_spelling = enumeration session_status_of session_status_word

abbrev pub session_status_kind : Kind
session_status_kind = spelled_kind session_status_spelling

-- the place among the variants
abbrev pub session_status_index : SessionStatus → ℕ
session_status_index session_status.Ok = 0
session_status_index session_status.Exited = 1
session_status_index session_status.Crashed = 2
session_status_index session_status.Abnormal = 3
