-- Authentications as texts: a header's, and a query's.
use Rattle.std.specs.Prelude.{◌≡◌, ℕ, ◌==◌, List, [], ◌∷◌, ◌++◌, map, codes, Option, Some, None, option_map, Result, Ok, Err}
use Rattle.std.specs.Char.{to_ascii_lowercase}
use Rattle.std.specs.Fmt.{decimal}
use Rattle.std.specs.List.{filter_map, slice_split, before_first, after_first}
use Rattle.std.specs.Str.{trim}
use Rattle.std.specs.Str.Lossy.{utf8_lossy}
use Rattle.form_urlencoded.specs.Form.{decode, raw_pairs}
use Rattle.sentry_moments.specs.Decimal.{decimal_text}
use Rattle.sentry_keys.specs.declared.auth.Auth.{Auth}
use Rattle.sentry_keys.specs.declared.auth.ParseAuthError.{ParseAuthError}
use Rattle.sentry_keys.specs.declared.auth.ParseAuthError.TheVariants.{NonSentryAuth, InvalidVersion, MissingPublicKey, Memory}
use Rattle.sentry_keys.specs.Auth.{Pair, Time, Parts, parts_of, timestamp_key, client_key, secret_key, IsAuth, HasUnreadableVersion, HasNoKey}

-- ---- a query

-- a pair, decoded as in a web form
abbrev pub decoded_pair : Pair → Pair
decoded_pair pair = (utf8_lossy (decode pair.0), utf8_lossy (decode pair.1))

-- the pairs of a query
abbrev pub query_pairs : List ℕ → List Pair
query_pairs query = map decoded_pair (raw_pairs query)

-- ---- a header

-- the first two parts of an item, without white space around them
abbrev pub first_two : List (List ℕ) → Option Pair
first_two [] = None
first_two (key ∷ []) = None
first_two (key ∷ value ∷ more) = Some (trim key, trim value)

-- an item is cut at each `=`; without one it is no pair
unfoldable pub item_pair : List ℕ → Option Pair
item_pair item = first_two (slice_split (λ b. b == 61) item)

-- the pairs of a list of items, with commas between them
abbrev pub list_pairs : List ℕ → List Pair
list_pairs items = filter_map item_pair (slice_split (λ b. b == 44) items)

-- the text begins with the word `sentry`, in any case, and a space, or is that word
abbrev pub BeginsWithSentry : List ℕ → Type 0
BeginsWithSentry text = map to_ascii_lowercase (before_first (λ b. b == 32) text) ≡ codes "sentry"

-- the pairs that follow the word
abbrev pub header_pairs : List ℕ → List Pair
header_pairs text = list_pairs (after_first (λ b. b == 32) text)

-- What reading a header answers.
abbrev pub ReadsHeader : List ℕ → Result Auth ParseAuthError → Type 0
ReadsHeader text (Ok auth) = BeginsWithSentry text × IsAuth (header_pairs text) (parts_of auth)
ReadsHeader text (Err NonSentryAuth) = BeginsWithSentry text → ⊥
ReadsHeader text (Err InvalidVersion) = BeginsWithSentry text × HasUnreadableVersion (header_pairs text)
ReadsHeader text (Err MissingPublicKey) = BeginsWithSentry text × HasNoKey (header_pairs text)
ReadsHeader text (Err Memory) = Unit {0}

-- ---- what is printed

-- a comma, a space, a name, `=` and a value, or nothing
abbrev pub part_text : List ℕ → Option (List ℕ) → List ℕ
part_text name None = []
part_text name (Some value) = codes ", " ++ (name ++ (codes "=" ++ value))

abbrev pub time_text : Time → List ℕ
time_text time = decimal_text time.0 time.1

abbrev pub auth_text : Parts → List ℕ
auth_text parts =
    codes "Sentry sentry_key=" ++ (parts.key ++ (codes ", sentry_version=" ++ (decimal parts.version
    ++ (part_text timestamp_key (option_map time_text parts.timestamp) ++ (part_text client_key parts.client ++ part_text secret_key parts.secret)))))
