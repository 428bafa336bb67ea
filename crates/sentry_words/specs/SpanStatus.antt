-- The words of a span's status.
use Rattle.std.specs.Prelude.{ℕ, List, [], ◌∷◌, Option, codes}
use Rattle.sentry_tables.specs.Kind.{Kind}
use Rattle.sentry_tables.specs.Spelling.{Spelling, enumeration, spelled_kind}
use Rattle.sentry_words.specs.Lookup.{lookup, by_word}
use Rattle.sentry_words.specs.declared.span_status.SpanStatus.{SpanStatus}
use Rattle.sentry_words.specs.declared.span_status.SpanStatus.TheVariants as span_status

abbrev pub span_status_word : SpanStatus → List ℕ
span_status_word span_status.Ok = codes "ok"
span_status_word span_status.DeadlineExceeded = codes "deadline_exceeded"
span_status_word span_status.Unauthenticated = codes "unauthenticated"
span_status_word span_status.PermissionDenied = codes "permission_denied"
span_status_word span_status.NotFound = codes "not_found"
span_status_word span_status.ResourceExhausted = codes "resource_exhausted"
span_status_word span_status.InvalidArgument = codes "invalid_argument"
span_status_word span_status.Unimplemented = codes "unimplemented"
span_status_word span_status.Unavailable = codes "unavailable"
span_status_word span_status.InternalError = codes "internal_error"
span_status_word span_status.UnknownError = codes "unknown_error"
span_status_word span_status.Cancelled = codes "cancelled"
span_status_word span_status.AlreadyExists = codes "already_exists"
span_status_word span_status.FailedPrecondition = codes "failed_precondition"
span_status_word span_status.Aborted = codes "aborted"
span_status_word span_status.OutOfRange = codes "out_of_range"
span_status_word span_status.DataLoss = codes "data_loss"

-- what is read
abbrev pub span_status_words : List (List ℕ × SpanStatus)
span_status_words = by_word span_status_word (span_status.Ok ∷ span_status.DeadlineExceeded ∷ span_status.Unauthenticated ∷ span_status.PermissionDenied ∷ span_status.NotFound ∷ span_status.ResourceExhausted ∷ span_status.InvalidArgument ∷ span_status.Unimplemented ∷ span_status.Unavailable ∷ span_status.InternalError ∷ span_status.UnknownError ∷ span_status.Cancelled ∷ span_status.AlreadyExists ∷ span_status.FailedPrecondition ∷ span_status.Aborted ∷ span_status.OutOfRange ∷ span_status.DataLoss ∷ [])

-- what a text is read as
abbrev pub span_status_of : List ℕ → Option SpanStatus
span_status_of = lookup span_status_words

abbrev pub span_status_spelling : Spelling
span_status_spelling = enumeration span_status_of span_status_word

abbrev pub span_status_kind : Kind
span_status_kind = spelled_kind span_status_spelling
