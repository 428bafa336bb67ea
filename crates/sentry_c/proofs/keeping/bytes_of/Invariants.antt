use Rattle.std.proofs.Common.{◌≡◌, ◌++◌, length}
use Rattle.std.specs.List.{flat_map}
use Rattle.sentry_c.specs.LedgerBytes.{eight_bytes, ledger_bytes}
use Rattle.sentry_c.proofs.keeping.bytes_of.Given as goal

-- what was written and what is left make the whole
abbrev pub invariant-loop-sum : goal.invariant-loop-sum
invariant-loop-sum l = ledger_bytes l.ledger ≡ l.bytes.items ++ flat_map eight_bytes l.left

abbrev pub decreases-loop-sum : goal.decreases-loop-sum
decreases-loop-sum l = length l.left
