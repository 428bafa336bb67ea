-- The tables of contexts are lawful, and so are contexts by their tag, and maps of them.
use Rattle.std.proofs.Common.{◌≡◌, refl}
use Rattle.serde_json.specs.Data.{null}
use Rattle.sentry_tables.proofs.Basic.{text_laws, truth_laws, u32_laws, u64_laws, any_laws}
use Rattle.sentry_tables.proofs.ByRows.{laws_by_rows, empty_map_stands}
use Rattle.sentry_tables.proofs.Laws.{has_laws}
use Rattle.sentry_tables.specs.Cell.{Cell, absent, any, present}
use Rattle.sentry_tables.specs.Fields.{rows_of}
use Rattle.sentry_tables.specs.Kind.{default, draw, may_strict}
use Rattle.sentry_tables.specs.Laws.{HasLaws}
use Rattle.sentry_tables.specs.Norm.{norm}
use Rattle.sentry_tables.specs.Lawful.{RuleLaws, IsLawful}
use Rattle.sentry_tables.specs.Cells.{empty_map}
use Rattle.sentry_tables.proofs.Spellings.{spelled_laws}
use Rattle.sentry_words.specs.Orientation.{orientation_kind, orientation_spelling}
use Rattle.sentry_words.specs.SpanStatus.{span_status_kind, span_status_spelling}
use Rattle.sentry_words.proofs.Enumerations.{orientation_laws, span_status_laws}
use Rattle.sentry_moments.specs.MomentForms.{rfc3339_kind}
use Rattle.sentry_moments.proofs.MomentSpellings.{rfc3339_scalar_laws, rfc3339_refuses_null}
use Rattle.sentry_identifiers.specs.HexIdTree.{IsOctets, hex_id_spelling, span_id_kind, trace_id_kind}
use Rattle.sentry_identifiers.proofs.HexIdTrees.{hex_id_laws, drawn_id_laws}
use Rattle.sentry_contexts.specs.Contexts.{context_kind, contexts_kind}
use Rattle.sentry_contexts.specs.Devices.{device_fields, device_kind, gpu_fields, gpu_kind}
use Rattle.sentry_contexts.specs.Programs.{app_fields, app_kind, browser_fields, browser_kind}
use Rattle.sentry_contexts.specs.Responses.{response_fields, response_kind, response_with}
use Rattle.sentry_contexts.specs.Systems.{os_fields, os_kind, runtime_fields, runtime_kind}
use Rattle.sentry_contexts.specs.Telemetry.{otel_fields, otel_kind, trace_context_fields, trace_context_kind}

-- ---- scalars and defaults

orientation_lawful : IsLawful orientation_kind
orientation_lawful = spelled_laws orientation_spelling orientation_laws

pub status_lawful : IsLawful span_status_kind
status_lawful = spelled_laws span_status_spelling span_status_laws

pub moment_lawful : IsLawful rfc3339_kind
moment_lawful = rfc3339_scalar_laws

pub moment_stands : RuleLaws may_strict rfc3339_kind
moment_stands = rfc3339_refuses_null

pub span_id_lawful : IsLawful span_id_kind
span_id_lawful = spelled_laws (hex_id_spelling 8) (hex_id_laws 8)

pub trace_id_lawful : IsLawful trace_id_kind
trace_id_lawful = spelled_laws (hex_id_spelling 16) (hex_id_laws 16)

pub span_id_drawn : RuleLaws (draw (IsOctets 8)) span_id_kind
span_id_drawn = drawn_id_laws 8

pub trace_id_drawn : RuleLaws (draw (IsOctets 16)) trace_id_kind
trace_id_drawn = drawn_id_laws 16

-- ---- tables

device_lawful : IsLawful device_kind
unfolding device_fields
device_lawful = laws_by_rows (rows_of device_fields) refl (search (text_laws, truth_laws, u32_laws, u64_laws, orientation_lawful, moment_lawful, moment_stands))

os_lawful : IsLawful os_kind
unfolding os_fields
os_lawful = laws_by_rows (rows_of os_fields) refl (search (text_laws, truth_laws))

runtime_lawful : IsLawful runtime_kind
unfolding runtime_fields
runtime_lawful = laws_by_rows (rows_of runtime_fields) refl (search text_laws)

app_lawful : IsLawful app_kind
unfolding app_fields
app_lawful = laws_by_rows (rows_of app_fields) refl (search (text_laws, moment_lawful, moment_stands))

browser_lawful : IsLawful browser_kind
unfolding browser_fields
browser_lawful = laws_by_rows (rows_of browser_fields) refl (search text_laws)

trace_context_lawful : IsLawful trace_context_kind
unfolding trace_context_fields
trace_context_lawful = laws_by_rows (rows_of trace_context_fields) refl (search (text_laws, any_laws, span_id_lawful, trace_id_lawful, span_id_drawn, trace_id_drawn, status_lawful, empty_map_stands))

gpu_lawful : IsLawful gpu_kind
unfolding gpu_fields
gpu_lawful = laws_by_rows (rows_of gpu_fields) refl (search (text_laws, truth_laws, u32_laws))

otel_lawful : IsLawful otel_kind
unfolding otel_fields
otel_lawful = laws_by_rows (rows_of otel_fields) refl (search (any_laws, empty_map_stands))

response_lawful : IsLawful response_kind
unfolding response_fields
response_lawful = laws_by_rows (rows_of response_fields) refl (search (text_laws, any_laws, u64_laws, empty_map_stands))

-- ---- by the tag

pub context_lawful : IsLawful context_kind
unfolding device_fields os_fields runtime_fields app_fields browser_fields trace_context_fields gpu_fields otel_fields response_fields
context_lawful = (refl, refl, refl, device_lawful, (refl, refl, refl, os_lawful, (refl, refl, refl, runtime_lawful, (refl, refl, refl, app_lawful, (refl, refl, refl, browser_lawful, (refl, refl, tt, trace_context_lawful, (refl, refl, refl, gpu_lawful, (refl, refl, refl, otel_lawful, (refl, refl, tt, response_lawful, (refl, refl, refl, tt, tt, refl), refl), refl), refl), refl), refl), refl), refl), refl), refl)

pub contexts_lawful : IsLawful contexts_kind
contexts_lawful = context_lawful

-- a row may leave out an empty map of contexts
pub no_contexts_stand : RuleLaws (default empty_map) contexts_kind
no_contexts_stand = ((λ now c h. h), ((tt, tt), (tt, tt), (tt, tt), refl))

-- ---- what they have

pub device_laws : HasLaws device_kind
device_laws = has_laws device_kind device_lawful

pub os_laws : HasLaws os_kind
os_laws = has_laws os_kind os_lawful

pub runtime_laws : HasLaws runtime_kind
runtime_laws = has_laws runtime_kind runtime_lawful

pub app_laws : HasLaws app_kind
app_laws = has_laws app_kind app_lawful

pub browser_laws : HasLaws browser_kind
browser_laws = has_laws browser_kind browser_lawful

pub trace_context_laws : HasLaws trace_context_kind
trace_context_laws = has_laws trace_context_kind trace_context_lawful

pub gpu_laws : HasLaws gpu_kind
gpu_laws = has_laws gpu_kind gpu_lawful

pub otel_laws : HasLaws otel_kind
otel_laws = has_laws otel_kind otel_lawful

pub response_laws : HasLaws response_kind
response_laws = has_laws response_kind response_lawful

pub context_laws : HasLaws context_kind
context_laws = has_laws context_kind context_lawful

pub contexts_laws : HasLaws contexts_kind
contexts_laws = has_laws contexts_kind contexts_lawful

-- ---- bodies of responses

pub null_is_no_body : (size cookies headers status : Cell) → norm response_kind (response_with size cookies (present (any null)) headers status) ≡ norm response_kind (response_with size cookies absent headers status)
unfolding response_fields
null_is_no_body size cookies headers status = refl
