-- Enumerations are lawful.
use Rattle.std.proofs.Common.{◌≡◌, ℕ, List, Option, Some, true, refl}
use Rattle.sentry_tables.specs.Lawful.{is_ascii}
use Rattle.sentry_tables.specs.Laws.{HasLaws}
use Rattle.sentry_tables.proofs.Sound.{ascii_text}
use Rattle.sentry_tables.specs.Spelling.{SpellingLaws, enumeration}
use Rattle.sentry_tables.proofs.Spellings.{enumeration_laws, spelled_has_laws}
use Rattle.sentry_words.specs.Level.{level_word, level_of, level_spelling, level_kind}
use Rattle.sentry_words.specs.SpanStatus.{span_status_word, span_status_of, span_status_spelling, span_status_kind}
use Rattle.sentry_words.specs.SessionStatus.{session_status_word, session_status_of, session_status_spelling, session_status_kind}
use Rattle.sentry_words.specs.LogLevel.{log_level_word, log_level_of, log_level_spelling, log_level_kind}
use Rattle.sentry_words.specs.MetricType.{metric_type_word, metric_type_of, metric_type_spelling, metric_type_kind}
use Rattle.sentry_words.specs.Orientation.{orientation_word, orientation_of, orientation_spelling, orientation_kind}
use Rattle.sentry_words.specs.MonitorIntervalUnit.{interval_unit_word, interval_unit_of, interval_unit_spelling, interval_unit_kind}
use Rattle.sentry_words.specs.MonitorCheckInStatus.{check_in_status_word, check_in_status_of, check_in_status_spelling, check_in_status_kind}
use Rattle.sentry_words.specs.declared.level.Level.TheVariants as level
use Rattle.sentry_words.specs.declared.span_status.SpanStatus.TheVariants as span_status
use Rattle.sentry_words.specs.declared.session_status.SessionStatus.TheVariants as session_status
use Rattle.sentry_words.specs.declared.log_level.LogLevel.TheVariants as log_level
use Rattle.sentry_words.specs.declared.metric_type.MetricType.TheVariants as metric_type
use Rattle.sentry_words.specs.declared.orientation.Orientation.TheVariants as orientation
use Rattle.sentry_words.specs.declared.monitor_interval_unit.MonitorIntervalUnit.TheVariants as interval_unit
use Rattle.sentry_words.specs.declared.monitor_check_in_status.MonitorCheckInStatus.TheVariants as check_in_status

-- each word is read as its variant, and is ASCII
abbrev pub ReadsItsWords : {V : Type 0} → (List ℕ → Option V) → (V → List ℕ) → Type 0
ReadsItsWords {V} of_text word = (v : V) → (of_text (word v) ≡ Some v) × (is_ascii (word v) ≡ true)

pub words_laws : {V : Type 0} (of_text : List ℕ → Option V) (word : V → List ℕ) → ReadsItsWords of_text word → SpellingLaws (enumeration of_text word)
words_laws of_text word own = enumeration_laws of_text word (λ v. (own v).0) (λ v. ascii_text (word v) (own v).1)

level_words_read : ReadsItsWords level_of level_word
level_words_read level.Debug = (refl, refl)
level_words_read _ = (refl, refl)

pub level_laws : SpellingLaws level_spelling
level_laws = words_laws level_of level_word level_words_read

pub level_has_laws : HasLaws level_kind
level_has_laws = spelled_has_laws level_spelling level_laws

span_status_words_read : ReadsItsWords span_status_of span_status_word
span_status_words_read span_status.Ok = (refl, refl)
span_status_words_read _ = (refl, refl)

pub span_status_laws : SpellingLaws span_status_spelling
span_status_laws = words_laws span_status_of span_status_word span_status_words_read

pub span_status_has_laws : HasLaws span_status_kind
span_status_has_laws = spelled_has_laws span_status_spelling span_status_laws

session_status_words_read : ReadsItsWords session_status_of session_status_word
session_status_words_read session_status.Ok = (refl, refl)
session_status_words_read _ = (refl, refl)

pub session_status_laws : SpellingLaws session_status_spelling
session_status_laws = words_laws session_status_of session_status_word session_status_words_read

pub session_status_has_laws : HasLaws session_status_kind
session_status_has_laws = spelled_has_laws session_status_spelling session_status_laws

log_level_words_read : ReadsItsWords log_level_of log_level_word
log_level_words_read log_level.Trace = (refl, refl)
log_level_words_read _ = (refl, refl)

pub log_level_laws : SpellingLaws log_level_spelling
log_level_laws = words_laws log_level_of log_level_word log_level_words_read

pub log_level_has_laws : HasLaws log_level_kind
log_level_has_laws = spelled_has_laws log_level_spelling log_level_laws

metric_type_words_read : ReadsItsWords metric_type_of metric_type_word
metric_type_words_read metric_type.Counter = (refl, refl)
metric_type_words_read _ = (refl, refl)

pub metric_type_laws : SpellingLaws metric_type_spelling
metric_type_laws = words_laws metric_type_of metric_type_word metric_type_words_read

pub metric_type_has_laws : HasLaws metric_type_kind
metric_type_has_laws = spelled_has_laws metric_type_spelling metric_type_laws

orientation_words_read : ReadsItsWords orientation_of orientation_word
orientation_words_read orientation.Portrait = (refl, refl)
orientation_words_read _ = (refl, refl)

pub orientation_laws : SpellingLaws orientation_spelling
orientation_laws = words_laws orientation_of orientation_word orientation_words_read

pub orientation_has_laws : HasLaws orientation_kind
orientation_has_laws = spelled_has_laws orientation_spelling orientation_laws

interval_unit_words_read : ReadsItsWords interval_unit_of interval_unit_word
interval_unit_words_read interval_unit.Year = (refl, refl)
interval_unit_words_read _ = (refl, refl)

pub interval_unit_laws : SpellingLaws interval_unit_spelling
interval_unit_laws = words_laws interval_unit_of interval_unit_word interval_unit_words_read

pub interval_unit_has_laws : HasLaws interval_unit_kind
interval_unit_has_laws = spelled_has_laws interval_unit_spelling interval_unit_laws

check_in_status_words_read : ReadsItsWords (λ text. Some (check_in_status_of text)) check_in_status_word
check_in_status_words_read check_in_status.Ok = (refl, refl)
check_in_status_words_read _ = (refl, refl)

pub check_in_status_laws : SpellingLaws check_in_status_spelling
check_in_status_laws = words_laws (λ text. Some (check_in_status_of text)) check_in_status_word check_in_status_words_read

pub check_in_status_has_laws : HasLaws check_in_status_kind
check_in_status_has_laws = spelled_has_laws check_in_status_spelling check_in_status_laws
