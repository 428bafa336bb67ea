-- Schedules are their own normal form.
use Rattle.std.proofs.Common.{◌≡◌, ℕ, List, refl, ap}
use Rattle.serde_json.specs.Data.{no_members}
use Rattle.sentry_tables.specs.Cell.{text, fields, no_cells, cell}
use Rattle.sentry_tables.specs.Cells.{natural_cell}
use Rattle.sentry_tables.specs.Made.{made}
use Rattle.sentry_tables.specs.Spelling.{word_cell}
use Rattle.sentry_tables.specs.declared.way.Way.{Way}
use Rattle.sentry_tables.proofs.Ways.{unchanged}
use Rattle.sentry_words.specs.MonitorIntervalUnit.{interval_unit_word}
use Rattle.sentry_words.specs.declared.monitor_interval_unit.MonitorIntervalUnit.{MonitorIntervalUnit}
use Rattle.sentry_records.specs.Monitors.{crontab_fields, crontab_kind, interval_fields, interval_kind}

pub crontab_made : (way : Way) (s t : List ℕ) → t ≡ s → fields (cell (text t) no_cells) no_members ≡ made way crontab_kind (fields (cell (text s) no_cells) no_members)
unfolding crontab_fields
crontab_made way s t is = unchanged way crontab_kind _ _ (ap (λ x. fields (cell (text x) no_cells) no_members) is) refl

pub interval_made : (way : Way) (n : ℕ) (u : MonitorIntervalUnit) → fields (cell (word_cell interval_unit_word u) (cell (natural_cell n) no_cells)) no_members ≡ made way interval_kind (fields (cell (word_cell interval_unit_word u) (cell (natural_cell n) no_cells)) no_members)
unfolding interval_fields
interval_made way n u = unchanged way interval_kind _ _ refl refl
