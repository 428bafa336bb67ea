-- Code identifiers.
use Rattle.std.specs.Prelude.{ℕ, List}
use Rattle.std.specs.String.{string_bytes}
use Rattle.sentry_identifiers.specs.declared.code_id.CodeId.{CodeId}

-- the text of a code identifier
abbrev pub code_text : CodeId → List ℕ
code_text id = string_bytes id.digits
