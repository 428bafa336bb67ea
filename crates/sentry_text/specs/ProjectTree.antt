-- Ids of projects and organizations in trees.
use Rattle.std.specs.Prelude.{ℕ, ◌^◌, pos, List, [], Some, option_map, decimal}
use Rattle.sentry_tables.specs.Cell.{Cell, text, whole}
use Rattle.sentry_tables.specs.Kind.{Kind}
use Rattle.sentry_tables.specs.Basic.{IsText, IsBelow}
use Rattle.sentry_tables.specs.Cells.{natural_cell}
use Rattle.sentry_tables.specs.Kinds.{unsigned_kind}
use Rattle.sentry_tables.specs.Spelling.{Spelling, spelled_kind, read_as, word_of}
use Rattle.sentry_text.specs.Number.{number_of}
use Rattle.sentry_text.specs.ProjectId.{project_text, organization_value}
use Rattle.sentry_text.specs.declared.project_id.ProjectId.{ProjectId}
use Rattle.sentry_text.specs.declared.project_id.OrganizationId.{OrganizationId}

-- ---- projects: each text is an id, the empty one too

abbrev pub project_cell : ProjectId → Cell
project_cell id = text (project_text id)

abbrev pub project_spelling : Spelling
project_spelling = read_as (λ s. Some (text s)) word_of IsText

abbrev pub project_kind : Kind
project_kind = spelled_kind project_spelling

-- ---- organizations: numbers, or texts of them

abbrev pub organization_cell : OrganizationId → Cell
organization_cell id = natural_cell (organization_value id)

-- as a number
abbrev pub organization_kind : Kind
organization_kind = unsigned_kind (2 ^ 64)

abbrev pub number_text : Cell → List ℕ
number_text (whole (pos n)) = decimal n
number_text _ = []

-- as a text: digits with or without a plus before them, written without
abbrev pub organization_spelling : Spelling
organization_spelling = read_as (λ s. option_map natural_cell (number_of 10 s)) number_text (IsBelow (2 ^ 64))

abbrev pub organization_text_kind : Kind
organization_text_kind = spelled_kind organization_spelling
