-- The members of an envelope's header, with their texts as places.
use Rattle.std.specs.Prelude.{◌≡◌, ℕ, Bool, true, false, List, codes, string_bytes, Option, Some, None, option_map}
use Rattle.hex.specs.Hex.{encode_lower}
use Rattle.uuid.specs.Text.{hyphenated_text, lower}
use Rattle.sentry_tables.specs.Cell.{Cell, octets, text}
use Rattle.sentry_tables.specs.Cells.{natural_cell, option_cell}
use Rattle.sentry_tables.specs.Defaults.{IsDefault}
use Rattle.sentry_tables.specs.Reading.{TextRefused, TextShown}
use Rattle.sentry_rows.specs.Parts.{part_at}
use Rattle.sentry_framing.specs.Framing.{IsLineAndBody}
use Rattle.sentry_identifiers.specs.HexId.{trace_bytes}
use Rattle.sentry_identifiers.specs.HexIdTree.{trace_id_cell}
use Rattle.sentry_keys.specs.Auth.{time_of}
use Rattle.sentry_keys.specs.Dsn.{dsn_parts, dsn_text}
use Rattle.sentry_keys.specs.DsnTree.{dsn_cell}
use Rattle.sentry_moments.specs.Moments.{moment_cell}
use Rattle.sentry_moments.specs.declared.moment.Moment.{Moment}
use Rattle.sentry_parts.specs.ClientSdk.{sdk_cell}
use Rattle.sentry_records.specs.Sampling.{sampling_cell, sampling_fields}
use Rattle.sentry_records.specs.declared.sampling.DynamicSamplingContext.{DynamicSamplingContext}
use Rattle.sentry_words.specs.Sampled.{sampled_cell}
use Rattle.sentry_envelope.specs.HeaderFields.{header_fields, header_kind, headers_cell}
use Rattle.sentry_envelope.specs.declared.headers.EnvelopeHeaders.{EnvelopeHeaders}
use Rattle.sentry_c.specs.Texts.{IsOptionalAt, IsTimestamp}
use Rattle.sentry_c.specs.declared.headers.CurdmesaHeader.{CurdmesaHeader}
use Rattle.sentry_c.specs.declared.headers.CurdmesaTrace.{CurdmesaTrace}
use Rattle.sentry_c.specs.declared.texts.CurdmesaPlace.{CurdmesaPlace}

-- ---- the header line

-- the headers are those that the header line shows
abbrev pub IsHeader : List ℕ → EnvelopeHeaders → Type 0
IsHeader bytes headers = (line : List ℕ) × (body : List ℕ) × IsLineAndBody bytes line body × TextShown header_kind line (headers_cell headers)

-- the header line shows no headers
abbrev pub HasNoHeader : List ℕ → Type 0
HasNoHeader bytes = (line : List ℕ) × (body : List ℕ) × IsLineAndBody bytes line body × TextRefused header_kind line

-- ---- members

-- an optional number and the flag 1; without one both are 0
abbrev pub IsNumber : ℕ → ℕ → Option ℕ → Type 0
IsNumber number flag None = (number ≡ 0) × (flag ≡ 0)
IsNumber number flag (Some n) = (number ≡ n) × (flag ≡ 1)

abbrev pub truth_number : Bool → ℕ
truth_number true = 1
truth_number false = 0

-- the member holds an optional value, whose text stands at a place
abbrev pub HoldsText : {A : Type 0} → (A → Cell) → (A → List ℕ) → List ℕ → CurdmesaPlace → ℕ → Cell → Type 0
HoldsText {A} f print texts place flag member = (o : Option A) × (option_cell f o ≡ member) × IsOptionalAt texts place flag (option_map print o)

-- the member holds an optional value, told as a number
abbrev pub HoldsNumber : {A : Type 0} → (A → Cell) → (A → ℕ) → ℕ → ℕ → Cell → Type 0
HoldsNumber {A} f value number flag member = (o : Option A) × (option_cell f o ≡ member) × IsNumber number flag (option_map value o)

abbrev pub HoldsPlain : List ℕ → CurdmesaPlace → ℕ → Cell → Type 0
HoldsPlain texts place flag member = (o : Option (List ℕ)) × (option_cell text o ≡ member) × IsOptionalAt texts place flag o

abbrev pub HoldsNatural : ℕ → ℕ → Cell → Type 0
HoldsNatural number flag member = (o : Option ℕ) × (option_cell natural_cell o ≡ member) × IsNumber number flag o

-- a member of a dynamic sampling context
abbrev pub in_trace : List ℕ → DynamicSamplingContext → Cell
in_trace key trace = part_at key sampling_fields trace

-- what the row says of a dynamic sampling context
pub record TellsTrace (texts : List ℕ) (row : CurdmesaTrace) (trace : DynamicSamplingContext) : Type 0 where
  pub trace_id : HoldsText trace_id_cell (λ id. encode_lower (trace_bytes id)) texts row.trace_id row.has_trace_id (in_trace (codes "trace_id") trace)
  pub public_key : HoldsPlain texts row.public_key row.has_public_key (in_trace (codes "public_key") trace)
  pub release : HoldsPlain texts row.release row.has_release (in_trace (codes "release") trace)
  pub environment : HoldsPlain texts row.environment row.has_environment (in_trace (codes "environment") trace)
  pub transaction : HoldsPlain texts row.transaction row.has_transaction (in_trace (codes "transaction") trace)
  pub sample_rate : HoldsNatural row.sample_rate row.has_sample_rate (in_trace (codes "sample_rate") trace)
  pub sample_rand : HoldsNatural row.sample_rand row.has_sample_rand (in_trace (codes "sample_rand") trace)
  pub org_id : HoldsNatural row.org_id row.has_org_id (in_trace (codes "org_id") trace)
  pub sampled : HoldsNumber sampled_cell truth_number row.sampled row.has_sampled (in_trace (codes "sampled") trace)

-- a context and the flag 1; without one the row is that of an empty context, and the flag 0
abbrev pub IsTrace : List ℕ → CurdmesaTrace → ℕ → Option DynamicSamplingContext → Type 0
IsTrace texts row flag None = (flag ≡ 0) × (empty : DynamicSamplingContext) × IsDefault sampling_fields empty × TellsTrace texts row empty
IsTrace texts row flag (Some trace) = (flag ≡ 1) × TellsTrace texts row trace

-- the member holds an optional time of sending
abbrev pub HoldsMoment : CurdmesaHeader → Cell → Type 0
HoldsMoment row member = (o : Option Moment) × (option_cell moment_cell o ≡ member) × IsTimestamp row.sent_at_secs row.sent_at_nanos row.has_sent_at (option_map time_of o)

-- the member holds an optional dynamic sampling context
abbrev pub HoldsTrace : List ℕ → CurdmesaHeader → Cell → Type 0
HoldsTrace texts row member = (o : Option DynamicSamplingContext) × (option_cell sampling_cell o ≡ member) × IsTrace texts row.trace row.has_trace o

-- a member of the header
abbrev pub in_header : List ℕ → EnvelopeHeaders → Cell
in_header key headers = part_at key header_fields headers

-- what the row says of envelope headers
pub record TellsHeader (texts : List ℕ) (row : CurdmesaHeader) (headers : EnvelopeHeaders) : Type 0 where
  pub event_id : HoldsText octets (hyphenated_text lower) texts row.event_id row.has_event_id (in_header (codes "event_id") headers)
  pub dsn : HoldsText dsn_cell (λ dsn. dsn_text (dsn_parts dsn)) texts row.dsn row.has_dsn (in_header (codes "dsn") headers)
  pub sdk_name : HoldsText sdk_cell (λ sdk. string_bytes sdk.name) texts row.sdk_name row.has_sdk (in_header (codes "sdk") headers)
  pub sdk_version : HoldsText sdk_cell (λ sdk. string_bytes sdk.version) texts row.sdk_version row.has_sdk (in_header (codes "sdk") headers)
  pub sent_at : HoldsMoment row (in_header (codes "sent_at") headers)
  pub trace : HoldsTrace texts row (in_header (codes "trace") headers)

-- the text of the members that the header line shows
pub record IsHeaderText (bytes : List ℕ) (row : CurdmesaHeader) (texts : List ℕ) : Type 0 where
  pub headers : EnvelopeHeaders
  pub shown : IsHeader bytes headers
  pub tells : TellsHeader texts row headers

-- the same, whatever row is told
abbrev pub IsSomeHeaderText : List ℕ → List ℕ → Type 0
IsSomeHeaderText bytes texts = (row : CurdmesaHeader) × IsHeaderText bytes row texts
