-- What pairs of a key and a value say of an authentication.
use Rattle.std.specs.Prelude.{◌≡◌, ℕ, ◌+◌, ◌*◌, ◌^◌, ◌<◌, ◌==◌, List, [], map, filter, codes, length, bytes_eq, Option, Some, None, option_map, unwrap_or, Result, Ok, Err, string_bytes}
use Rattle.std.specs.List.{AllByRecursion, Contains, last_or, before_first}
use Rattle.sentry_text.specs.Number.{IsNumber}
use Rattle.sentry_moments.specs.Decimal.{IsDecimal, Billionths}
use Rattle.sentry_moments.specs.Rfc3339.{IsMomentTime}
use Rattle.sentry_moments.specs.declared.moment.Moment.{Moment}
use Rattle.sentry_keys.specs.declared.auth.Auth.{Auth}
use Rattle.sentry_keys.specs.declared.auth.ParseAuthError.{ParseAuthError}
use Rattle.sentry_keys.specs.declared.auth.ParseAuthError.TheVariants.{NonSentryAuth, InvalidVersion, MissingPublicKey, Memory}

-- a key and a value
abbrev pub Pair : Type 0
Pair = List ℕ × List ℕ

-- seconds and nanoseconds since 1970-01-01T00:00:00Z
abbrev pub Time : Type 0
Time = ℕ × ℕ

-- what an authentication tells
pub record Parts : Type 0 where
  pub timestamp : Option Time
  pub client : Option (List ℕ)
  pub version : ℕ
  pub key : List ℕ
  pub secret : Option (List ℕ)

abbrev pub time_of : Moment → Time
time_of moment = (moment.secs, moment.nanos)

abbrev pub parts_of : Auth → Parts
parts_of auth = record {
  timestamp = option_map time_of auth.timestamp;
  client = option_map string_bytes auth.client;
  version = auth.version;
  key = string_bytes auth.key;
  secret = option_map string_bytes auth.secret;
}

-- ---- pairs

-- the values of the pairs with this key
abbrev pub values_at : List ℕ → List Pair → List (List ℕ)
values_at key pairs = map (λ p. p.1) (filter (λ p. bytes_eq p.0 key) pairs)

-- the value of the last pair with this key
abbrev pub last_at : List ℕ → List Pair → Option (List ℕ)
last_at key pairs = last_or None (values_at key pairs)

abbrev pub timestamp_key : List ℕ
timestamp_key = codes "sentry_timestamp"

abbrev pub client_key : List ℕ
client_key = codes "sentry_client"

abbrev pub version_key : List ℕ
version_key = codes "sentry_version"

abbrev pub key_key : List ℕ
key_key = codes "sentry_key"

abbrev pub secret_key : List ℕ
secret_key = codes "sentry_secret"

-- ---- values

-- up to its first point the text is a whole number of 16 bits, with or without a plus before its digits
abbrev pub IsVersion : List ℕ → ℕ → Type 0
IsVersion text n = IsNumber 10 (before_first (λ b. b == 46) text) n × (n < 2 ^ 16)

abbrev pub HasVersion : List ℕ → Type 0
HasVersion text = (n : ℕ) × IsVersion text n

abbrev pub HasNoVersion : List ℕ → Type 0
HasNoVersion text = (n : ℕ) → IsVersion text n → ⊥

-- the text is a decimal of seconds that a moment has
abbrev pub IsTime : List ℕ → Time → Type 0
IsTime text time = IsMomentTime time.0 time.1 × IsDecimal text (Billionths (time.0 * 10 ^ 9 + time.1))

-- the version that the last pair gives, and without one the latest
abbrev pub VersionIs : Option (List ℕ) → ℕ → Type 0
VersionIs None n = n ≡ 7
VersionIs (Some text) n = IsVersion text n

-- the moment that the last pair gives, or none where it isn't one
abbrev pub TimestampIs : Option (List ℕ) → Option Time → Type 0
TimestampIs None time = time ≡ None
TimestampIs (Some text) None = (time : Time) → IsTime text time → ⊥
TimestampIs (Some text) (Some time) = IsTime text time

-- ---- what pairs say

abbrev pub VersionsAreReadable : List Pair → Type 0
VersionsAreReadable pairs = AllByRecursion HasVersion (values_at version_key pairs)

-- the last pair of each key tells its part; other keys tell nothing
pub record Tell (pairs : List Pair) (parts : Parts) : Type 0 where
  pub timestamp : TimestampIs (last_at timestamp_key pairs) parts.timestamp
  pub client : parts.client ≡ last_at client_key pairs
  pub version : VersionIs (last_at version_key pairs) parts.version
  pub versions : VersionsAreReadable pairs
  pub key : parts.key ≡ unwrap_or (last_at key_key pairs) []
  pub secret : parts.secret ≡ last_at secret_key pairs

-- they tell an authentication where there is a key
abbrev pub IsAuth : List Pair → Parts → Type 0
IsAuth pairs parts = Tell pairs parts × (0 < length parts.key)

-- some version isn't readable
abbrev pub HasUnreadableVersion : List Pair → Type 0
HasUnreadableVersion pairs = (text : List ℕ) × Contains (values_at version_key pairs) text × HasNoVersion text

-- every version is readable, and the key is empty or missing
abbrev pub HasNoKey : List Pair → Type 0
HasNoKey pairs = VersionsAreReadable pairs × (unwrap_or (last_at key_key pairs) [] ≡ [])

-- What reading pairs answers.
abbrev pub ReadsPairs : List Pair → Result Auth ParseAuthError → Type 0
ReadsPairs pairs (Ok auth) = IsAuth pairs (parts_of auth)
ReadsPairs pairs (Err NonSentryAuth) = ⊥
ReadsPairs pairs (Err InvalidVersion) = HasUnreadableVersion pairs
ReadsPairs pairs (Err MissingPublicKey) = HasNoKey pairs
ReadsPairs pairs (Err Memory) = Unit {0}
