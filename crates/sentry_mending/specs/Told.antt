-- What is told of an envelope's faults.
use Rattle.std.specs.Prelude.{ℕ, List, Option, Some, None, slice_range}
use Rattle.sentry_envelope.specs.Profile.{Profile}
use Rattle.sentry_mending.specs.Alone.{Fails, alone}
use Rattle.sentry_mending.specs.declared.fault.Fault.{Fault}

-- what is read: all bytes for the header line, and for an item an envelope of this item alone
abbrev pub read_alone : Option ℕ → List ℕ → ℕ → ℕ → List ℕ
read_alone None bytes start end = bytes
read_alone (Some item) bytes start end = alone (slice_range bytes start end)

-- the fault tells the first check that fails there
abbrev pub IsTold : Profile → List ℕ → Fault → Type 0
IsTold P bytes f = Fails P (read_alone f.item bytes f.start f.end) f.error
