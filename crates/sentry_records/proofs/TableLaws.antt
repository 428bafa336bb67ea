-- The tables of what traces are sampled by, of sessions, of monitors, of logs and metrics, and of what users say are lawful.
use Rattle.std.proofs.Common.{◌^◌, refl, arith}
use Rattle.sentry_tables.proofs.Basic.{text_laws, truth_laws, unsigned_refuses_null, signed_laws, u32_laws, u64_laws}
use Rattle.sentry_tables.proofs.ByRows.{laws_by_rows, empty_list_stands, empty_map_stands, false_stands}
use Rattle.sentry_tables.proofs.Laws.{has_laws}
use Rattle.sentry_tables.specs.Basic.{signed_scalar}
use Rattle.sentry_tables.specs.Fields.{rows_of}
use Rattle.sentry_tables.specs.Kind.{at_once, default, always, draw, may_strict, Kind, list}
use Rattle.sentry_tables.specs.Laws.{HasLaws}
use Rattle.sentry_tables.specs.Lawful.{ScalarLaws, IsLawful, RuleLaws}
use Rattle.sentry_tables.specs.Cells.{natural_cell, empty_list}
use Rattle.sentry_tables.specs.Kinds.{unsigned_kind}
use Rattle.sentry_tables.proofs.Spellings.{spelled_laws, spelled_refuses_null}
use Rattle.sentry_text.proofs.IpTrees.{ip_lawful}
use Rattle.sentry_identifiers.specs.HexIdTree.{hex_id_spelling, span_id_kind, trace_id_kind}
use Rattle.sentry_identifiers.specs.Uuids.{IsRandomUuid, hyphenated, hyphenated_kind}
use Rattle.sentry_identifiers.proofs.HexIdTrees.{hex_id_laws}
use Rattle.sentry_identifiers.proofs.UuidLaws.{hyphenated_laws, simple_laws, drawn_uuid_laws}
use Rattle.sentry_moments.specs.MomentForms.{rfc3339_kind}
use Rattle.sentry_moments.specs.SamplingTexts.{sample_rand_kind, sample_rate_kind}
use Rattle.sentry_moments.proofs.MomentSpellings.{rfc3339_scalar_laws, rfc3339_refuses_null, rfc3339_at_once, seconds_laws}
use Rattle.sentry_moments.proofs.SamplingSpellings.{sample_rand_scalar_laws, sample_rate_scalar_laws}
use Rattle.sentry_text.specs.ProjectTree.{organization_spelling, organization_text_kind}
use Rattle.sentry_text.proofs.ProjectTrees.{organization_text_laws}
use Rattle.sentry_text.proofs.SeverityLaws.{severity_laws}
use Rattle.sentry_words.proofs.UnitLaws.{unit_laws as measure_laws}
use Rattle.sentry_words.specs.Units.{unit_kind as measure_kind, unit_spelling as measure_spelling}
use Rattle.sentry_words.specs.LogLevel.{log_level_kind, log_level_spelling}
use Rattle.sentry_words.specs.MetricType.{metric_type_kind, metric_type_spelling}
use Rattle.sentry_words.specs.MonitorCheckInStatus.{check_in_status_kind, check_in_status_spelling}
use Rattle.sentry_words.specs.MonitorIntervalUnit.{interval_unit_kind, interval_unit_spelling}
use Rattle.sentry_words.specs.Sampled.{sampled_kind, sampled_spelling}
use Rattle.sentry_words.specs.SessionStatus.{session_status_kind, session_status_spelling}
use Rattle.sentry_words.specs.declared.session_status.SessionStatus.TheVariants as SessionStatus
use Rattle.sentry_words.proofs.Enumerations.{check_in_status_laws, interval_unit_laws, log_level_laws, metric_type_laws, session_status_laws}
use Rattle.sentry_words.proofs.SampledLaws.{sampled_laws}
use Rattle.sentry_records.specs.Logs.{log_fields, log_kind}
use Rattle.sentry_records.specs.Metrics.{metric_fields, metric_kind}
use Rattle.sentry_records.specs.Monitors.{crontab_fields, crontab_kind, interval_fields, interval_kind, schedule_kind, config_fields, config_kind, check_in_fields, check_in_kind}
use Rattle.sentry_records.specs.Sampling.{sampling_fields, sampling_kind}
use Rattle.sentry_records.specs.Sessions.{ok_status, attributes_fields, attributes_kind, session_fields, session_kind, group_fields, group_kind, groups_fields, groups_kind}
use Rattle.sentry_records.specs.UserReports.{user_report_fields, user_report_kind}
use Rattle.sentry_records.proofs.Attributes.{attribute_lawful}

-- ---- scalars and defaults

i64_laws : ScalarLaws (signed_scalar (2 ^ 63))
i64_laws = signed_laws (2 ^ 63) (omega arith)

span_lawful : IsLawful span_id_kind
span_lawful = spelled_laws (hex_id_spelling 8) (hex_id_laws 8)

trace_lawful : IsLawful trace_id_kind
trace_lawful = spelled_laws (hex_id_spelling 16) (hex_id_laws 16)

rand_lawful : IsLawful sample_rand_kind
rand_lawful = sample_rand_scalar_laws

rate_lawful : IsLawful sample_rate_kind
rate_lawful = sample_rate_scalar_laws

sampled_lawful : IsLawful sampled_kind
sampled_lawful = spelled_laws sampled_spelling sampled_laws

organization_lawful : IsLawful organization_text_kind
organization_lawful = spelled_laws organization_spelling organization_text_laws

moment_lawful : IsLawful rfc3339_kind
moment_lawful = rfc3339_scalar_laws

moment_stands : RuleLaws may_strict rfc3339_kind
moment_stands = rfc3339_refuses_null

now_stands : RuleLaws at_once rfc3339_kind
now_stands = rfc3339_at_once

status_lawful : IsLawful session_status_kind
status_lawful = spelled_laws session_status_spelling session_status_laws

check_lawful : IsLawful check_in_status_kind
check_lawful = spelled_laws check_in_status_spelling check_in_status_laws

unit_lawful : IsLawful interval_unit_kind
unit_lawful = spelled_laws interval_unit_spelling interval_unit_laws

level_lawful : IsLawful log_level_kind
level_lawful = spelled_laws log_level_spelling log_level_laws

type_lawful : IsLawful metric_type_kind
type_lawful = spelled_laws metric_type_spelling metric_type_laws

measure_lawful : IsLawful measure_kind
measure_lawful = spelled_laws measure_spelling measure_laws

id_drawn : RuleLaws (draw IsRandomUuid) hyphenated_kind
id_drawn = drawn_uuid_laws hyphenated

none_stand : RuleLaws (default (natural_cell 0)) (unsigned_kind (2 ^ 32))
none_stand = (unsigned_refuses_null (2 ^ 32), (omega arith, tt, tt, refl))

no_errors_stand : RuleLaws (always (natural_cell 0)) (unsigned_kind (2 ^ 64))
no_errors_stand = (unsigned_refuses_null (2 ^ 64), (omega arith, tt, tt, refl))

ok_stands : RuleLaws (always ok_status) session_status_kind
ok_stands = (spelled_refuses_null session_status_spelling, ((SessionStatus.Ok, refl), tt, tt, refl))

empty_list_stays : (K : Kind) → RuleLaws (always empty_list) (list K)
empty_list_stays K = empty_list_stands K

-- ---- sampling and sessions

pub sampling_lawful : IsLawful sampling_kind
unfolding sampling_fields
sampling_lawful = laws_by_rows (rows_of sampling_fields) refl (search (text_laws, trace_lawful, rand_lawful, rate_lawful, sampled_lawful, organization_lawful))

pub attributes_lawful : IsLawful attributes_kind
unfolding attributes_fields
attributes_lawful = laws_by_rows (rows_of attributes_fields) refl (search (text_laws, ip_lawful))

pub session_lawful : IsLawful session_kind
unfolding session_fields
session_lawful = laws_by_rows (rows_of session_fields) refl (search (text_laws, truth_laws, u64_laws, false_stands, no_errors_stand, ok_stands, status_lawful, hyphenated_laws, id_drawn, moment_lawful, moment_stands, now_stands, attributes_lawful))

pub group_lawful : IsLawful group_kind
unfolding group_fields
group_lawful = laws_by_rows (rows_of group_fields) refl (search (text_laws, u32_laws, none_stand, moment_lawful))

pub groups_lawful : IsLawful groups_kind
unfolding groups_fields
groups_lawful = laws_by_rows (rows_of groups_fields) refl (search (group_lawful, attributes_lawful, empty_list_stays))

-- ---- monitors and reports

crontab_lawful : IsLawful crontab_kind
unfolding crontab_fields
crontab_lawful = laws_by_rows (rows_of crontab_fields) refl (search text_laws)

interval_lawful : IsLawful interval_kind
unfolding interval_fields
interval_lawful = laws_by_rows (rows_of interval_fields) refl (search (u64_laws, unit_lawful))

pub schedule_lawful : IsLawful schedule_kind
unfolding crontab_fields interval_fields
schedule_lawful = (refl, refl, tt, crontab_lawful, (refl, refl, tt, interval_lawful, tt, refl), refl)

pub config_lawful : IsLawful config_kind
unfolding config_fields
config_lawful = laws_by_rows (rows_of config_fields) refl (search (text_laws, u64_laws, schedule_lawful))

pub check_in_lawful : IsLawful check_in_kind
unfolding check_in_fields
check_in_lawful = laws_by_rows (rows_of check_in_fields) refl (search (text_laws, u64_laws, simple_laws, check_lawful, config_lawful))

pub user_report_lawful : IsLawful user_report_kind
unfolding user_report_fields
user_report_lawful = laws_by_rows (rows_of user_report_fields) refl (search (text_laws, simple_laws))

-- ---- logs and metrics

pub log_lawful : IsLawful log_kind
unfolding log_fields
log_lawful = laws_by_rows (rows_of log_fields) refl (search (text_laws, attribute_lawful, empty_map_stands, level_lawful, severity_laws, seconds_laws, trace_lawful))

pub metric_lawful : IsLawful metric_kind
unfolding metric_fields
metric_lawful = laws_by_rows (rows_of metric_fields) refl (search (text_laws, i64_laws, attribute_lawful, empty_map_stands, type_lawful, measure_lawful, seconds_laws, span_lawful, trace_lawful))

-- ---- their laws

pub sampling_laws : HasLaws sampling_kind
sampling_laws = has_laws sampling_kind sampling_lawful

pub attributes_laws : HasLaws attributes_kind
attributes_laws = has_laws attributes_kind attributes_lawful

pub session_laws : HasLaws session_kind
session_laws = has_laws session_kind session_lawful

pub group_laws : HasLaws group_kind
group_laws = has_laws group_kind group_lawful

pub groups_laws : HasLaws groups_kind
groups_laws = has_laws groups_kind groups_lawful

pub schedule_laws : HasLaws schedule_kind
schedule_laws = has_laws schedule_kind schedule_lawful

pub config_laws : HasLaws config_kind
config_laws = has_laws config_kind config_lawful

pub check_in_laws : HasLaws check_in_kind
check_in_laws = has_laws check_in_kind check_in_lawful

pub user_report_laws : HasLaws user_report_kind
user_report_laws = has_laws user_report_kind user_report_lawful

pub log_laws : HasLaws log_kind
log_laws = has_laws log_kind log_lawful

pub metric_laws : HasLaws metric_kind
metric_laws = has_laws metric_kind metric_lawful
