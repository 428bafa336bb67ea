-- The tables of schedules by their tag, of monitors and of check-ins. Members of other keys are ignored.
use Rattle.std.specs.Prelude.{◌≡◌, ◌^◌, ℕ, List, [], ◌∷◌, codes, true, ⊤, refl}
use Rattle.std.specs.List.{join_with_byte}
use Rattle.serde_json.specs.Data.{no_members}
use Rattle.sentry_tables.specs.Cell.{Cell, octets, text, choice, fields, no_cells, cell}
use Rattle.sentry_tables.specs.Fields.{Field, field, rows_of, table_of, fields_by}
use Rattle.sentry_tables.specs.Kind.{must, may, ignored, Kind, tagged, Cases, no_cases, case, keys}
use Rattle.sentry_tables.specs.Written.{in_order}
use Rattle.sentry_tables.specs.Cells.{text_cell, natural_cell, option_cell}
use Rattle.sentry_tables.specs.Kinds.{text_kind, unsigned_kind}
use Rattle.sentry_tables.specs.Spelling.{word_cell}
use Rattle.sentry_identifiers.specs.Uuids.{simple_kind}
use Rattle.sentry_words.specs.MonitorCheckInStatus.{check_in_status_kind, check_in_status_word}
use Rattle.sentry_words.specs.MonitorIntervalUnit.{interval_unit_kind, interval_unit_word}
use Rattle.sentry_records.specs.declared.schedule_rows.CrontabRows.{CrontabRows}
use Rattle.sentry_records.specs.declared.schedule_rows.IntervalRows.{IntervalRows}
use Rattle.sentry_records.specs.declared.monitor_config.MonitorConfig.{MonitorConfig}
use Rattle.sentry_records.specs.declared.monitor_check_in.MonitorCheckIn.{MonitorCheckIn}
use Rattle.sentry_text.specs.Crontab.{IsCrontab, SplitsInto, refusal, message_of}
use Rattle.sentry_records.specs.declared.monitor_schedule.ScheduleError.{ScheduleError}
use Rattle.sentry_records.specs.declared.monitor_schedule.ScheduleError.TheVariants as Fault
use Rattle.sentry_records.specs.declared.schedule_rows.LentCrontab.{LentCrontab}
use Rattle.sentry_records.specs.declared.monitor_schedule.MonitorSchedule.{MonitorSchedule}
use Rattle.sentry_records.specs.declared.monitor_schedule.MonitorSchedule.TheVariants as Schedule

-- ---- a schedule by a crontab

unfoldable pub crontab_fields : List (Field CrontabRows)
crontab_fields =
    field (codes "value") must text_kind (λ r. text_cell r.value)
    ∷ []

abbrev pub crontab_kind : Kind
crontab_kind = table_of crontab_fields

pub crontab_in_order : in_order (keys (rows_of crontab_fields)) ≡ true
unfolding crontab_fields
crontab_in_order = refl

-- ---- a schedule by an interval

unfoldable pub interval_fields : List (Field IntervalRows)
interval_fields =
    field (codes "unit") must interval_unit_kind (λ r. (word_cell interval_unit_word) r.unit)
    ∷ field (codes "value") must (unsigned_kind (2 ^ 64)) (λ r. natural_cell r.value)
    ∷ []

abbrev pub interval_kind : Kind
interval_kind = table_of interval_fields

pub interval_in_order : in_order (keys (rows_of interval_fields)) ≡ true
unfolding interval_fields
interval_in_order = refl

-- ---- a schedule by its tag

-- a crontab that only lends its text has the same rows
unfoldable pub lent_fields : List (Field LentCrontab)
lent_fields = field (codes "value") must text_kind (λ r. text_cell r.value.now) ∷ []

pub lent_in_order : in_order (keys (rows_of lent_fields)) ≡ true
unfolding lent_fields
lent_in_order = refl

abbrev pub schedule_cases : Cases
schedule_cases =
    case (codes "crontab") (rows_of crontab_fields) ignored
    (case (codes "interval") (rows_of interval_fields) ignored no_cases)

abbrev pub schedule_kind : Kind
schedule_kind = tagged schedule_cases

abbrev pub schedule_cell : MonitorSchedule → Cell
schedule_cell (Schedule.Crontab s) = choice 0 (fields (cell (text_cell s) no_cells) no_members)
schedule_cell (Schedule.Interval n unit) = choice 1 (fields (cell (word_cell interval_unit_word unit) (cell (natural_cell n) no_cells)) no_members)

-- that of a crontab
abbrev pub crontab_schedule : List ℕ → Cell
crontab_schedule s = choice 0 (fields (cell (text s) no_cells) no_members)

-- the text is no crontab schedule, as the error says of it; or memory was refused
abbrev pub IsNoCrontab : List ℕ → ScheduleError → Type 0
IsNoCrontab s (Fault.Invalid e) = (IsCrontab s → ⊥) × (words : List (List ℕ)) × SplitsInto s words × (message_of e ≡ refusal s (join_with_byte 95 words))
IsNoCrontab s Fault.Memory = ⊤

-- ---- what a monitor expects

unfoldable pub config_fields : List (Field MonitorConfig)
config_fields =
    field (codes "checkin_margin") may (unsigned_kind (2 ^ 64)) (λ c. option_cell natural_cell c.checkin_margin)
    ∷ field (codes "failure_issue_threshold") may (unsigned_kind (2 ^ 64)) (λ c. option_cell natural_cell c.failure_issue_threshold)
    ∷ field (codes "max_runtime") may (unsigned_kind (2 ^ 64)) (λ c. option_cell natural_cell c.max_runtime)
    ∷ field (codes "recovery_threshold") may (unsigned_kind (2 ^ 64)) (λ c. option_cell natural_cell c.recovery_threshold)
    ∷ field (codes "schedule") must schedule_kind (λ c. schedule_cell c.schedule)
    ∷ field (codes "timezone") may text_kind (λ c. option_cell text_cell c.timezone)
    ∷ []

abbrev pub config_kind : Kind
config_kind = table_of config_fields

abbrev pub config_cell : MonitorConfig → Cell
config_cell c = fields_by config_fields c

pub config_in_order : in_order (keys (rows_of config_fields)) ≡ true
unfolding config_fields
config_in_order = refl

-- ---- a check-in

unfoldable pub check_in_fields : List (Field MonitorCheckIn)
check_in_fields =
    field (codes "check_in_id") must simple_kind (λ c. octets c.check_in_id)
    ∷ field (codes "duration") may (unsigned_kind (2 ^ 64)) (λ c. option_cell natural_cell c.duration)
    ∷ field (codes "environment") may text_kind (λ c. option_cell text_cell c.environment)
    ∷ field (codes "monitor_config") may config_kind (λ c. option_cell config_cell c.monitor_config)
    ∷ field (codes "monitor_slug") must text_kind (λ c. text_cell c.monitor_slug)
    ∷ field (codes "status") must check_in_status_kind (λ c. (word_cell check_in_status_word) c.status)
    ∷ []

abbrev pub check_in_kind : Kind
check_in_kind = table_of check_in_fields

abbrev pub check_in_cell : MonitorCheckIn → Cell
check_in_cell c = fields_by check_in_fields c

pub check_in_in_order : in_order (keys (rows_of check_in_fields)) ≡ true
unfolding check_in_fields
check_in_in_order = refl
