use Rattle.std.proofs.Common.{◌≡◌, ◌+◌, ◌≤◌, min, take, vec_len, vec_capacity}
use Rattle.sentry_json.proofs.writer.buffer.clear.Given as goal

-- what stood stays in front, and what is left has room
abbrev pub invariant-loop-left : goal.invariant-loop-left
invariant-loop-left l =
    (take (vec_len l.fn.bytes) l.bytes.items ≡ l.fn.bytes.items) × (vec_len l.fn.bytes ≤ vec_len l.bytes)
    × (min (vec_len l.fn.bytes + l.count) (vec_capacity l.fn.bytes) ≤ vec_len l.bytes + l.left)
    × (vec_len l.bytes + l.left ≤ vec_capacity l.bytes) × (vec_capacity l.fn.bytes ≤ vec_capacity l.bytes)

abbrev pub decreases-loop-left : goal.decreases-loop-left
decreases-loop-left l = l.left
