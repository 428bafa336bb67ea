-- Ids of spans and traces in trees: texts of hex digits in either case, written in lower case.
use Rattle.std.specs.Prelude.{◌≡◌, ℕ, List, [], length, option_map}
use Rattle.hex.specs.Hex.{IsBytes, encode_lower}
use Rattle.sentry_tables.specs.Cell.{Cell, octets}
use Rattle.sentry_tables.specs.Kind.{Kind}
use Rattle.sentry_tables.specs.Spelling.{Spelling, spelled_kind, read_as}
use Rattle.sentry_identifiers.specs.HexId.{hex_id_of, span_bytes, trace_bytes}
use Rattle.sentry_identifiers.specs.declared.span_id.SpanId.{SpanId}
use Rattle.sentry_identifiers.specs.declared.trace_id.TraceId.{TraceId}

-- an id is its bytes
abbrev pub span_id_cell : SpanId → Cell
span_id_cell id = octets (span_bytes id)

abbrev pub trace_id_cell : TraceId → Cell
trace_id_cell id = octets (trace_bytes id)

-- n bytes, which may be any
abbrev pub IsOctets : ℕ → Cell → Type 0
IsOctets n (octets bytes) = (length bytes ≡ n) × IsBytes bytes
IsOctets n _ = ⊥

-- two digits for each byte, in lower case
abbrev pub hex_text : Cell → List ℕ
hex_text (octets bytes) = encode_lower bytes
hex_text _ = []

abbrev pub hex_id_spelling : ℕ → Spelling
hex_id_spelling n = read_as (λ text. option_map octets (hex_id_of n text)) hex_text (IsOctets n)

abbrev pub span_id_kind : Kind
span_id_kind = spelled_kind (hex_id_spelling 8)

abbrev pub trace_id_kind : Kind
trace_id_kind = spelled_kind (hex_id_spelling 16)
