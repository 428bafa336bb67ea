-- Ids of spans and traces: bytes, written as hex digits.
use Rattle.std.specs.Prelude.{◌≡◌, ℕ, List, map, length, Option, Result}
use Rattle.std.specs.Char.{to_ascii_lowercase}
use Rattle.std.specs.Result.{result_ok, result_map_both}
use Rattle.hex.specs.declared.error.FromHexError.{FromHexError}
use Rattle.hex.specs.Hex.{IsBytes, decode_sized, encode_lower}
use Rattle.sentry_identifiers.specs.declared.span_id.SpanId.{SpanId}
use Rattle.sentry_identifiers.specs.declared.trace_id.TraceId.{TraceId}

-- the bytes of an id
abbrev pub span_bytes : SpanId → List ℕ
span_bytes id = id.0

abbrev pub trace_bytes : TraceId → List ℕ
trace_bytes id = id.0

-- the text writes n bytes, each as two digits, in either case
pub record IsHexId (n : ℕ) (text bytes : List ℕ) : Type 0 where
  pub size : length bytes ≡ n
  pub are_bytes : IsBytes bytes
  pub digits : map to_ascii_lowercase text ≡ encode_lower bytes

-- what the text is read as
unfoldable pub hex_id_of : ℕ → List ℕ → Option (List ℕ)
hex_id_of n text = result_ok (decode_sized text n)

-- the answer is the id of the n bytes that the digits write, and the error that names what is wrong where they write none
abbrev pub ReadsHex : {A : Type 0} → ℕ → (A → List ℕ) → List ℕ → Result A FromHexError → Type 0
ReadsHex n bytes_of text answer = result_map_both bytes_of (λ error. error) answer ≡ decode_sized text n
