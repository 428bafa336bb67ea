use Rattle.std.proofs.Common.{◌≡◌, ◌+◌, ◌-◌, ◌≤◌, length, take}
use Rattle.sentry_json.proofs.writer.copy.copy_long.Given as goal

-- the first bytes are copied, and 32 bytes and more are left
abbrev pub invariant-loop-at : goal.invariant-loop-at
invariant-loop-at l = (l.at + 32 ≤ length l.text) × (length l.to ≡ length l.text) × (take l.at l.to ≡ take l.at l.text)

abbrev pub decreases-loop-at : goal.decreases-loop-at
decreases-loop-at l = length l.text - l.at
