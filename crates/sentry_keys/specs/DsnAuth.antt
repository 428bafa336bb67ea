-- What a client with a DSN authenticates itself with.
use Rattle.std.specs.Prelude.{ℕ, List, Option, Some}
use Rattle.sentry_moments.specs.declared.moment.Moment.{Moment}
use Rattle.sentry_keys.specs.Auth.{Parts, time_of}
use Rattle.sentry_keys.specs.Dsn.{DsnParts}

-- the DSN's keys, version 7, the moment and the client's name
abbrev pub auth_of : DsnParts → Moment → Option (List ℕ) → Parts
auth_of dsn now client = record { timestamp = Some (time_of now); client = client; version = 7; key = dsn.key; secret = dsn.secret }
