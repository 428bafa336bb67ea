-- The table of what traces are sampled by. Members of other keys are ignored.
use Rattle.std.specs.Prelude.{◌≡◌, ℕ, List, [], ◌∷◌, codes, true, bytes_eq, if◌then◌else◌, refl}
use Rattle.serde_json.specs.Data.{no_members}
use Rattle.sentry_tables.specs.Cell.{Cell, Cells, present, fields, no_cells, cell}
use Rattle.sentry_tables.specs.Fields.{Field, field, rows_of, table_of, fields_by}
use Rattle.sentry_tables.specs.Kind.{may, Kind, keys}
use Rattle.sentry_tables.specs.Written.{in_order}
use Rattle.sentry_tables.specs.Cells.{text_cell, option_cell}
use Rattle.sentry_tables.specs.Kinds.{text_kind}
use Rattle.sentry_identifiers.specs.HexIdTree.{trace_id_cell, trace_id_kind}
use Rattle.sentry_moments.specs.SamplingTexts.{sample_rand_cell, sample_rand_kind, sample_rate_cell, sample_rate_kind}
use Rattle.sentry_text.specs.ProjectTree.{organization_cell, organization_text_kind}
use Rattle.sentry_words.specs.Sampled.{sampled_cell, sampled_kind}
use Rattle.sentry_records.specs.declared.sampling.DynamicSamplingContext.{DynamicSamplingContext}

unfoldable pub sampling_fields : List (Field DynamicSamplingContext)
sampling_fields =
    field (codes "environment") may text_kind (λ s. option_cell text_cell s.environment)
    ∷ field (codes "org_id") may organization_text_kind (λ s. option_cell organization_cell s.org_id)
    ∷ field (codes "public_key") may text_kind (λ s. option_cell text_cell s.public_key)
    ∷ field (codes "release") may text_kind (λ s. option_cell text_cell s.release)
    ∷ field (codes "sample_rand") may sample_rand_kind (λ s. option_cell sample_rand_cell s.sample_rand)
    ∷ field (codes "sample_rate") may sample_rate_kind (λ s. option_cell sample_rate_cell s.sample_rate)
    ∷ field (codes "sampled") may sampled_kind (λ s. option_cell sampled_cell s.sampled)
    ∷ field (codes "trace_id") may trace_id_kind (λ s. option_cell trace_id_cell s.trace_id)
    ∷ field (codes "transaction") may text_kind (λ s. option_cell text_cell s.transaction)
    ∷ []

abbrev pub sampling_kind : Kind
sampling_kind = table_of sampling_fields

abbrev pub sampling_cell : DynamicSamplingContext → Cell
sampling_cell s = fields_by sampling_fields s

pub sampling_in_order : in_order (keys (rows_of sampling_fields)) ≡ true
unfolding sampling_fields
sampling_in_order = refl

-- ---- builders

-- the cells of these rows, but for that of the key
abbrev pub put_row : List (Field DynamicSamplingContext) → List ℕ → Cell → DynamicSamplingContext → Cells
put_row [] k c s = no_cells
put_row (f ∷ fs) k c s = cell (if bytes_eq k f.key then present c else f.part s) (put_row fs k c s)

-- the same context, but that the row of the key holds this value
abbrev pub with_row : List ℕ → Cell → DynamicSamplingContext → Cell
with_row k c s = fields (put_row sampling_fields k c s) no_members
