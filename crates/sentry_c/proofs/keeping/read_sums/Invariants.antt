use Rattle.std.proofs.Common.{◌≡◌, ◌*◌, take, length}
use Rattle.std.specs.List.{flat_map}
use Rattle.sentry_c.specs.LedgerBytes.{eight_bytes}
use Rattle.sentry_c.proofs.keeping.read_sums.Given as goal

-- the sums before `i` are those of the bytes before theirs
abbrev pub invariant-loop-i : goal.invariant-loop-i
invariant-loop-i l = (length l.sums ≡ length l.initial.sums) × (take (8 * l.i) l.bytes ≡ flat_map eight_bytes (take l.i l.sums))
