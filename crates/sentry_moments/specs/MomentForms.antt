-- The forms of moments in trees: RFC 3339 texts, and whole seconds.
use Rattle.std.specs.Prelude.{◌≡◌, ℕ, ◌==◌, ◌≤◌, List, [], false, ⊤, if◌then◌else◌}
use Rattle.serde_json.specs.Data.{Data, null, number, string, unsigned}
use Rattle.sentry_tables.specs.Cell.{Cell, moment}
use Rattle.sentry_tables.specs.Kind.{Scalar, Kind, scalar}
use Rattle.sentry_tables.specs.Lawful.{IsMoment, last_second}
use Rattle.sentry_tables.specs.Spelling.{Spelling, spelled_kind}
use Rattle.sentry_moments.specs.MomentTexts.{rfc3339_text}
use Rattle.sentry_moments.specs.Rfc3339.{IsRfc3339}

-- ---- RFC 3339 texts

-- the text names the moment
abbrev pub NamesMoment : List ℕ → Cell → Type 0
NamesMoment text (moment secs nanos) = IsRfc3339 text secs nanos
NamesMoment text _ = ⊥

abbrev pub moment_text : Cell → List ℕ
moment_text (moment secs nanos) = rfc3339_text secs nanos
moment_text _ = []

-- each moment of the years 1970 to 9999 is its own normal form
abbrev pub rfc3339_spelling : Spelling
rfc3339_spelling = record { spells = NamesMoment; written = moment_text; norm = λ c. c; stored = IsMoment; readable = λ c. ⊤ }

abbrev pub rfc3339_kind : Kind
rfc3339_kind = spelled_kind rfc3339_spelling

-- ---- whole seconds

-- a number is the whole seconds from 1970-01-01T00:00:00Z to the end of the year 9999, and a text names the moment
abbrev pub ShowsSeconds : Data → Cell → Type 0
ShowsSeconds (number (unsigned n)) c = (c ≡ moment n 0) × (n ≤ last_second)
ShowsSeconds (string text) c = NamesMoment text c
ShowsSeconds _ c = ⊥

-- a number where there are no nanoseconds, and else a text
abbrev pub seconds_tree : Cell → Data
seconds_tree (moment secs nanos) = if nanos == 0 then number (unsigned secs) else string (rfc3339_text secs nanos)
seconds_tree _ = null

abbrev pub seconds_scalar : Scalar
seconds_scalar = record {
  shows = ShowsSeconds;
  tree = seconds_tree;
  norm = λ c. c;
  is_null = λ c. false;
  stored = IsMoment;
  plain = λ c. ⊤;
  readable = λ c. ⊤;
}

abbrev pub seconds_kind : Kind
seconds_kind = scalar seconds_scalar
