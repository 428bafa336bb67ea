use Rattle.std.proofs.Common.{◌≡◌, ℕ, List, ◌++◌, length}
use Rattle.json.specs.Print.{escape}
use Rattle.sentry_items.proofs.escaped.write_escaped.Given as goal

abbrev pub invariant-loop-byte : goal.invariant-loop-byte
invariant-loop-byte l = (l.out.items ++ escape l.rest ≡ l.fn.out.items ++ escape l.text) × ((part : List ℕ) × (l.out.items ≡ l.fn.out.items ++ part))

abbrev pub decreases-loop-byte : goal.decreases-loop-byte
decreases-loop-byte l = length l.rest
