-- What `==` says of values: they are equal exactly where their cells are the same.
use Rattle.std.proofs.Common.{rules, ◌≡◌, ℕ, zero, suc, Bool, List, Option, Some, refl, sym, ap, ◌∙◌, Decides}
use Rattle.std.proofs.lemmas.Bool.Decides.{Decides-and, Decides-like}
use Rattle.std.proofs.lemmas.Option.{same_Some}
use mathlib.Core.Bool.{beq}
use Rattle.std.specs.String.{string_eq}
use Rattle.uuid.specs.contracts.UuidPartialEq.TheImpl.{eq-value as of_ids}
use Rattle.uuid.specs.declared.Uuid.{Uuid}
use Rattle.sentry_tables.specs.Cell.{Cell, Cells, absent, octets, fields, no_cells, cell}
use Rattle.sentry_tables.specs.Cells.{text_cell, natural_cell}
use Rattle.sentry_tables.specs.Spelling.{word_cell}
use Rattle.sentry_tables.proofs.Equal.{texts_decide, options_decide, naturals_decide}
use Rattle.sentry_identifiers.specs.HexIdTree.{trace_id_cell}
use Rattle.sentry_identifiers.specs.contracts.trace_id.TraceIdPartialEq.TheImpl.{eq-value as of_traces}
use Rattle.sentry_identifiers.specs.declared.trace_id.TraceId.{TraceId}
use Rattle.sentry_moments.specs.Moments.{moment_cell}
use Rattle.sentry_moments.specs.SamplingTexts.{sample_rand_cell, sample_rate_cell}
use Rattle.sentry_moments.specs.contracts.moment.MomentPartialEq.TheImpl.{eq-value as of_moments}
use Rattle.sentry_moments.specs.contracts.sample_rand.SampleRandPartialEq.TheImpl.{eq-value as of_rands}
use Rattle.sentry_moments.specs.contracts.sample_rate.SampleRatePartialEq.TheImpl.{eq-value as of_rates}
use Rattle.sentry_moments.specs.declared.moment.Moment.{Moment}
use Rattle.sentry_moments.specs.declared.sample_rand.SampleRand.{SampleRand}
use Rattle.sentry_moments.specs.declared.sample_rate.SampleRate.{SampleRate}
use Rattle.sentry_text.specs.ProjectTree.{organization_cell}
use Rattle.sentry_text.specs.contracts.project_id.OrganizationIdPartialEq.TheImpl.{eq-value as of_organizations}
use Rattle.sentry_text.specs.declared.project_id.OrganizationId.{OrganizationId}
use Rattle.sentry_words.specs.MonitorCheckInStatus.{check_in_status_of, check_in_status_word}
use Rattle.sentry_words.specs.MonitorIntervalUnit.{interval_unit_of, interval_unit_word}
use Rattle.sentry_words.proofs.SampledLaws.{sampled_back}
use Rattle.sentry_words.specs.Sampled.{sampled_word, sampled_of, sampled_cell}
use Rattle.sentry_words.specs.contracts.monitor_check_in_status.MonitorCheckInStatusPartialEq.TheImpl.{eq-value as of_statuses}
use Rattle.sentry_words.specs.contracts.monitor_interval_unit.MonitorIntervalUnitPartialEq.TheImpl.{eq-value as of_units}
use Rattle.sentry_words.specs.declared.monitor_check_in_status.MonitorCheckInStatus.{MonitorCheckInStatus}
use Rattle.sentry_words.specs.declared.monitor_check_in_status.MonitorCheckInStatus.TheVariants as Status
use Rattle.sentry_words.specs.declared.monitor_interval_unit.MonitorIntervalUnit.{MonitorIntervalUnit}
use Rattle.sentry_words.specs.declared.monitor_interval_unit.MonitorIntervalUnit.TheVariants as Units
use Rattle.sentry_records.specs.Monitors.{schedule_cell, config_fields, config_cell, check_in_fields, check_in_cell}
use Rattle.sentry_records.specs.Sampling.{sampling_fields, sampling_cell}
use Rattle.sentry_records.specs.Sessions.{group_fields, group_cell}
use Rattle.sentry_records.specs.UserReports.{user_report_fields, user_report_cell}
use Rattle.sentry_records.specs.contracts.monitor_check_in.MonitorCheckInPartialEq.TheImpl.{eq-value as of_check_ins}
use Rattle.sentry_records.specs.contracts.monitor_config.MonitorConfigPartialEq.TheImpl.{eq-value as of_configs}
use Rattle.sentry_records.specs.contracts.monitor_schedule.MonitorSchedulePartialEq.TheImpl.{eq-value as of_schedules}
use Rattle.sentry_records.specs.contracts.sampling.DynamicSamplingContextPartialEq.TheImpl.{eq-value as of_contexts}
use Rattle.sentry_records.specs.contracts.session_aggregate_item.SessionAggregateItemPartialEq.TheImpl.{eq-value as of_groups}
use Rattle.sentry_records.specs.contracts.user_report.UserReportPartialEq.TheImpl.{eq-value as of_reports}
use Rattle.sentry_records.specs.declared.monitor_check_in.MonitorCheckIn.{MonitorCheckIn}
use Rattle.sentry_records.specs.declared.monitor_config.MonitorConfig.{MonitorConfig}
use Rattle.sentry_records.specs.declared.monitor_schedule.MonitorSchedule.{MonitorSchedule}
use Rattle.sentry_records.specs.declared.monitor_schedule.MonitorSchedule.TheVariants as Schedule
use Rattle.sentry_records.specs.declared.sampling.DynamicSamplingContext.{DynamicSamplingContext}
use Rattle.sentry_records.specs.declared.session_aggregate_item.SessionAggregateItem.{SessionAggregateItem}
use Rattle.sentry_records.specs.declared.user_report.UserReport.{UserReport}

-- ---- scalars

pub ids_decide : (a b : Uuid) → Decides (of_ids.it a b) (octets a ≡ octets b)
ids_decide a b = search rules

pub moments_decide : (a b : Moment) → Decides (of_moments.it a b) (moment_cell a ≡ moment_cell b)
moments_decide a b = search rules

traces_decide : (a b : TraceId) → Decides (of_traces.it a b) (trace_id_cell a ≡ trace_id_cell b)
traces_decide a b = search rules

rates_decide : (a b : SampleRate) → Decides (of_rates.it a b) (sample_rate_cell a ≡ sample_rate_cell b)
rates_decide a b = search rules

rands_decide : (a b : SampleRand) → Decides (of_rands.it a b) (sample_rand_cell a ≡ sample_rand_cell b)
rands_decide a b = search rules

organizations_decide : (a b : OrganizationId) → Decides (of_organizations.it a b) (organization_cell a ≡ organization_cell b)
organizations_decide a b = search rules

pub truths_same : (a b : Bool) → Decides (beq a b) (a ≡ b)
truths_same a b = search rules

-- words that are read back are the same where their variants are
module _ {V : Type 0} (E : V → V → Bool) (same : (a b : V) → Decides (E a b) (a ≡ b)) (of_text : List ℕ → Option V) (word : V → List ℕ) (own : (v : V) → of_text (word v) ≡ Some v) where
  one_word : (a b : V) → word a ≡ word b → a ≡ b
  one_word a b e = same_Some a b (sym (own a) ∙ (ap of_text e ∙ own b))

  pub words_decide : (a b : V) → Decides (E a b) (word_cell word a ≡ word_cell word b)
  words_decide a b = Decides-like (E a b) (λ e. ap (word_cell word) e) (λ e. one_word a b (cc)) (same a b)

sampled_decides : (a b : Bool) → Decides (beq a b) (sampled_cell a ≡ sampled_cell b)
sampled_decides = words_decide beq truths_same sampled_of sampled_word sampled_back

units_same : (a b : MonitorIntervalUnit) → Decides (of_units.it a b) (a ≡ b)
units_same a b = search rules

units_read : (u : MonitorIntervalUnit) → interval_unit_of (interval_unit_word u) ≡ Some u
units_read Units.Year = refl
units_read _ = refl

units_decide : (a b : MonitorIntervalUnit) → Decides (of_units.it a b) (word_cell interval_unit_word a ≡ word_cell interval_unit_word b)
units_decide = words_decide of_units.it units_same interval_unit_of interval_unit_word units_read

statuses_same : (a b : MonitorCheckInStatus) → Decides (of_statuses.it a b) (a ≡ b)
statuses_same a b = search rules

statuses_read : (s : MonitorCheckInStatus) → Some (check_in_status_of (check_in_status_word s)) ≡ Some s
statuses_read Status.Ok = refl
statuses_read _ = refl

statuses_decide : (a b : MonitorCheckInStatus) → Decides (of_statuses.it a b) (word_cell check_in_status_word a ≡ word_cell check_in_status_word b)
statuses_decide = words_decide of_statuses.it statuses_same (λ s. Some (check_in_status_of s)) check_in_status_word statuses_read

-- ---- tables

unfoldable pub cells_in : Cell → Cells
cells_in (fields cs ms) = cs
cells_in _ = no_cells

unfoldable pub nth : ℕ → Cells → Cell
nth n no_cells = absent
nth zero (cell c cs) = c
nth (suc n) (cell c cs) = nth n cs

-- rows of one place hold the same where all do
pub row : (n : ℕ) (c d : Cell) → c ≡ d → nth n (cells_in c) ≡ nth n (cells_in d)
row n c d e = ap (λ x. nth n (cells_in x)) e

pub contexts_decide : (a b : DynamicSamplingContext) → Decides (of_contexts.it a b) (sampling_cell a ≡ sampling_cell b)
unfolding sampling_fields nth cells_in
contexts_decide a b =
    let parts = Decides-and _ _ (options_decide of_traces.it trace_id_cell traces_decide a.trace_id b.trace_id)
    (Decides-and _ _ (options_decide string_eq text_cell texts_decide a.public_key b.public_key)
    (Decides-and _ _ (options_decide of_rates.it sample_rate_cell rates_decide a.sample_rate b.sample_rate)
    (Decides-and _ _ (options_decide of_rands.it sample_rand_cell rands_decide a.sample_rand b.sample_rand)
    (Decides-and _ _ (options_decide beq sampled_cell sampled_decides a.sampled b.sampled)
    (Decides-and _ _ (options_decide string_eq text_cell texts_decide a.release b.release)
    (Decides-and _ _ (options_decide string_eq text_cell texts_decide a.environment b.environment)
    (Decides-and _ _ (options_decide string_eq text_cell texts_decide a.transaction b.transaction)
    (options_decide of_organizations.it organization_cell organizations_decide a.org_id b.org_id)))))))) in (
      λ same.
          let e = parts.0 same in
          let trace = e.0 in
          let key = e.1.0 in
          let rate = e.1.1.0 in
          let rand = e.1.1.1.0 in
          let sampled = e.1.1.1.1.0 in
          let release = e.1.1.1.1.1.0 in
          let environment = e.1.1.1.1.1.1.0 in
          let transaction = e.1.1.1.1.1.1.1.0 in
          let organization = e.1.1.1.1.1.1.1.1 in
          cc,
      λ same. parts.1 (row 7 _ _ same, (row 2 _ _ same, (row 5 _ _ same, (row 4 _ _ same, (row 6 _ _ same, (row 3 _ _ same, (row 0 _ _ same, (row 8 _ _ same, row 1 _ _ same)))))))),
    )

pub groups_decide : (a b : SessionAggregateItem) → Decides (of_groups.it a b) (group_cell a ≡ group_cell b)
unfolding group_fields
groups_decide a b =
    let parts = Decides-and _ _ (moments_decide a.started b.started)
    (Decides-and _ _ (options_decide string_eq text_cell texts_decide a.distinct_id b.distinct_id)
    (Decides-and _ _ (naturals_decide a.exited b.exited)
    (Decides-and _ _ (naturals_decide a.errored b.errored)
    (Decides-and _ _ (naturals_decide a.abnormal b.abnormal) (naturals_decide a.crashed b.crashed))))) in (
      λ same.
          let e = parts.0 same in
          let started = e.0 in
          let distinct = e.1.0 in
          let exited = e.1.1.0 in
          let errored = e.1.1.1.0 in
          let abnormal = e.1.1.1.1.0 in
          let crashed = e.1.1.1.1.1 in
          cc,
      λ same. parts.1 (cc, (cc, (cc, (cc, (cc, cc))))),
    )

pub schedules_decide : (a b : MonitorSchedule) → Decides (of_schedules.it a b) (schedule_cell a ≡ schedule_cell b)
schedules_decide (Schedule.Crontab s) (Schedule.Crontab t) =
    let text = texts_decide s t in
    (λ same. let e = text.0 same in cc, λ same. text.1 (cc))
schedules_decide (Schedule.Crontab s) (Schedule.Interval n u) = (λ same. cc, λ same. cc)
schedules_decide (Schedule.Interval m u) (Schedule.Crontab t) = (λ same. cc, λ same. cc)
schedules_decide (Schedule.Interval m u) (Schedule.Interval n v) =
    let parts = Decides-and _ _ (naturals_decide m n) (units_decide u v) in
    (λ same. let e = parts.0 same in let value = e.0 in let unit = e.1 in cc, λ same. parts.1 (cc, cc))

pub configs_decide : (a b : MonitorConfig) → Decides (of_configs.it a b) (config_cell a ≡ config_cell b)
unfolding config_fields
configs_decide a b =
    let parts = Decides-and _ _ (schedules_decide a.schedule b.schedule)
    (Decides-and _ _ (options_decide _ natural_cell naturals_decide a.checkin_margin b.checkin_margin)
    (Decides-and _ _ (options_decide _ natural_cell naturals_decide a.max_runtime b.max_runtime)
    (Decides-and _ _ (options_decide string_eq text_cell texts_decide a.timezone b.timezone)
    (Decides-and _ _ (options_decide _ natural_cell naturals_decide a.failure_issue_threshold b.failure_issue_threshold)
    (options_decide _ natural_cell naturals_decide a.recovery_threshold b.recovery_threshold))))) in (
      λ same.
          let e = parts.0 same in
          let schedule = e.0 in
          let margin = e.1.0 in
          let longest = e.1.1.0 in
          let zone = e.1.1.1.0 in
          let failures = e.1.1.1.1.0 in
          let recoveries = e.1.1.1.1.1 in
          cc,
      λ same. parts.1 (cc, (cc, (cc, (cc, (cc, cc))))),
    )

pub check_ins_decide : (a b : MonitorCheckIn) → Decides (of_check_ins.it a b) (check_in_cell a ≡ check_in_cell b)
unfolding check_in_fields
check_ins_decide a b =
    let parts = Decides-and _ _ (ids_decide a.check_in_id b.check_in_id)
    (Decides-and _ _ (texts_decide a.monitor_slug b.monitor_slug)
    (Decides-and _ _ (statuses_decide a.status b.status)
    (Decides-and _ _ (options_decide string_eq text_cell texts_decide a.environment b.environment)
    (Decides-and _ _ (options_decide _ natural_cell naturals_decide a.duration b.duration)
    (options_decide of_configs.it config_cell configs_decide a.monitor_config b.monitor_config))))) in (
      λ same.
          let e = parts.0 same in
          let id = e.0 in
          let slug = e.1.0 in
          let status = e.1.1.0 in
          let environment = e.1.1.1.0 in
          let duration = e.1.1.1.1.0 in
          let config = e.1.1.1.1.1 in
          cc,
      λ same. parts.1 (cc, (cc, (cc, (cc, (cc, cc))))),
    )

pub reports_decide : (a b : UserReport) → Decides (of_reports.it a b) (user_report_cell a ≡ user_report_cell b)
unfolding user_report_fields
reports_decide a b =
    let parts = Decides-and _ _ (ids_decide a.event_id b.event_id)
    (Decides-and _ _ (options_decide string_eq text_cell texts_decide a.name b.name)
    (Decides-and _ _ (options_decide string_eq text_cell texts_decide a.email b.email) (texts_decide a.comments b.comments))) in
    (λ same. let e = parts.0 same in let id = e.0 in let name = e.1.0 in let email = e.1.1.0 in let comments = e.1.1.1 in cc, λ same. parts.1 (cc, (cc, (cc, cc))))
