-- Contexts by their tag, and maps of contexts.
use Rattle.std.specs.Prelude.{◌≡◌, ℕ, List, Box, codes}
use Rattle.serde_json.specs.View.{members_view}
use Rattle.sentry_tables.specs.Cell.{Cell, choice, fields, no_cells}
use Rattle.sentry_tables.specs.Fields.{rows_of}
use Rattle.sentry_tables.specs.Kind.{Kind, ignored, no_rows, Cases, no_cases, case, tagged, tagged_map}
use Rattle.sentry_rows.specs.Cased.{but_tag}
use Rattle.sentry_contexts.specs.Devices.{device_cell, device_fields, gpu_cell, gpu_fields}
use Rattle.sentry_contexts.specs.Systems.{os_cell, os_fields, runtime_cell, runtime_fields}
use Rattle.sentry_contexts.specs.Programs.{app_cell, app_fields, browser_cell, browser_fields}
use Rattle.sentry_contexts.specs.Telemetry.{otel_cell, otel_fields, trace_context_cell, trace_context_fields}
use Rattle.sentry_contexts.specs.Responses.{response_cell, response_fields}
use Rattle.sentry_contexts.specs.declared.context.Context.{Context}
use Rattle.sentry_contexts.specs.declared.context.Context.TheVariants as Variant

-- the word of each case, its table, and what becomes of members of other keys
abbrev pub context_cases : Cases
context_cases =
    case (codes "device") (rows_of device_fields) but_tag
    (case (codes "os") (rows_of os_fields) but_tag
    (case (codes "runtime") (rows_of runtime_fields) but_tag
    (case (codes "app") (rows_of app_fields) but_tag
    (case (codes "browser") (rows_of browser_fields) but_tag
    (case (codes "trace") (rows_of trace_context_fields) ignored
    (case (codes "gpu") (rows_of gpu_fields) but_tag
    (case (codes "otel") (rows_of otel_fields) but_tag
    (case (codes "response") (rows_of response_fields) ignored
    (case (codes "unknown") no_rows but_tag no_cases)))))))))

abbrev pub context_kind : Kind
context_kind = tagged context_cases

-- in a map a context without a tag is of the case of its key, if there is one, and else an unknown one
abbrev pub contexts_kind : Kind
contexts_kind = tagged_map context_cases (codes "unknown")

abbrev pub context_cell : Context → Cell
context_cell (Variant.Device b) = choice 0 (device_cell b.value)
context_cell (Variant.Os b) = choice 1 (os_cell b.value)
context_cell (Variant.Runtime b) = choice 2 (runtime_cell b.value)
context_cell (Variant.App b) = choice 3 (app_cell b.value)
context_cell (Variant.Browser b) = choice 4 (browser_cell b.value)
context_cell (Variant.Trace b) = choice 5 (trace_context_cell b.value)
context_cell (Variant.Gpu b) = choice 6 (gpu_cell b.value)
context_cell (Variant.Otel b) = choice 7 (otel_cell b.value)
context_cell (Variant.Response b) = choice 8 (response_cell b.value)
context_cell (Variant.Other m) = choice 9 (fields no_cells (members_view m.entries))

-- the tag of a context
abbrev pub context_word : Context → List ℕ
context_word (Variant.Device b) = codes "device"
context_word (Variant.Os b) = codes "os"
context_word (Variant.Runtime b) = codes "runtime"
context_word (Variant.App b) = codes "app"
context_word (Variant.Browser b) = codes "browser"
context_word (Variant.Trace b) = codes "trace"
context_word (Variant.Gpu b) = codes "gpu"
context_word (Variant.Otel b) = codes "otel"
context_word (Variant.Response b) = codes "response"
context_word (Variant.Other m) = codes "unknown"

-- ---- the choice holds this value, in a box

abbrev pub IsBoxed : {T A C : Type 0} → (Box T A → C) → T → C → Type 0
IsBoxed {T} {A} variant x c = (b : Box T A) × (c ≡ variant b) × (b.value ≡ x)
