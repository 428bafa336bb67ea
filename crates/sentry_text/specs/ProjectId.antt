-- Ids of projects and organizations. An organization's text is a decimal number (`number_of 10`).
use Rattle.std.specs.Prelude.{ℕ, List}
use Rattle.std.specs.String.{string_bytes}
use Rattle.sentry_text.specs.declared.project_id.ProjectId.{ProjectId}
use Rattle.sentry_text.specs.declared.project_id.OrganizationId.{OrganizationId}
use Rattle.sentry_text.specs.declared.project_id.ParseProjectIdError.{ParseProjectIdError}
use Rattle.sentry_text.specs.declared.project_id.ParseProjectIdError.TheVariants.{EmptyValue, Memory}

-- the text of a project's id
abbrev pub project_text : ProjectId → List ℕ
project_text id = string_bytes id.text

-- the number of an organization's id
abbrev pub organization_value : OrganizationId → ℕ
organization_value id = id.0

-- the place of an error among the variants
abbrev pub error_index : ParseProjectIdError → ℕ
error_index EmptyValue = 0
error_index Memory = 1
