use Rattle.std.proofs.Common.{◌≡◌, ◌+◌, drop, length}
use Rattle.sentry_forward.specs.View.{joined_parts}
use Rattle.sentry_c.proofs.output.parts_len.Given as goal

-- what was counted and what is left make the whole
abbrev pub invariant-loop-part : goal.invariant-loop-part
invariant-loop-part l = length (joined_parts l.parts) ≡ l.len + length (joined_parts (drop l.part-index l.parts))
