use Rattle.std.proofs.Common.{◌≡◌, ◌++◌, drop}
use Rattle.sentry_forward.specs.View.{joined_parts, text_of}
use Rattle.sentry_forward.proofs.forwarding.Forwarded.to_vec.Given as goal

-- what was copied and what is left make the whole
abbrev pub invariant-loop-part-2 : goal.invariant-loop-part-2
invariant-loop-part-2 l = text_of l.fn.self ≡ l.bytes.items ++ joined_parts (drop l.part-index l.fn.self.parts.items)
