-- UUIDs as texts.
use Rattle.std.specs.Prelude.{◌≡◌, ◌<◌, ℕ, List, [], Option, option_map, length, All}
use Rattle.uuid.specs.Text.{lower, simple_text, hyphenated_text, parsed}
use Rattle.uuid.specs.Uuid.{version_num}
use Rattle.sentry_tables.specs.Cell.{Cell, octets}
use Rattle.sentry_tables.specs.Kind.{Kind}
use Rattle.sentry_tables.specs.Spelling.{Spelling, read_as, spelled_kind}

-- sixteen bytes
abbrev pub IsUuid : Cell → Type 0
IsUuid (octets b) = (length b ≡ 16) × All (λ x. x < 256) b
IsUuid _ = ⊥

-- a text in any of the four forms, in either case
abbrev pub uuid_of : List ℕ → Option Cell
uuid_of text = option_map octets (parsed text)

-- 8, 4, 4, 4 and 12 digits in lower case, with hyphens between
abbrev pub hyphenated : Cell → List ℕ
hyphenated (octets b) = hyphenated_text lower b
hyphenated _ = []

-- 32 digits in lower case
abbrev pub simple : Cell → List ℕ
simple (octets b) = simple_text lower b
simple _ = []

-- UUIDs that are written so
abbrev pub uuid_spelling : (Cell → List ℕ) → Spelling
uuid_spelling to_text = read_as uuid_of to_text IsUuid

abbrev pub uuid_kind : (Cell → List ℕ) → Kind
uuid_kind to_text = spelled_kind (uuid_spelling to_text)

abbrev pub hyphenated_kind : Kind
hyphenated_kind = uuid_kind hyphenated

abbrev pub simple_kind : Kind
simple_kind = uuid_kind simple

-- a random UUID: of version 4, whatever its variant
abbrev pub IsRandomUuid : Cell → Type 0
IsRandomUuid (octets b) = IsUuid (octets b) × (version_num b ≡ 4)
IsRandomUuid _ = ⊥
