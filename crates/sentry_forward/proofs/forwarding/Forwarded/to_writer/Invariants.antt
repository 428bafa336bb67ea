use Rattle.std.proofs.Common.{◌≡◌, ◌++◌, List, ℕ, drop}
use Rattle.std.specs.Io.KnownBytes.{Appends}
use Rattle.sentry_forward.specs.View.{joined_parts, text_of}
use Rattle.sentry_forward.proofs.forwarding.Forwarded.to_writer.Given as goal

abbrev pub invariant-loop-part : goal.invariant-loop-part
invariant-loop-part g l = (front : List ℕ) × (text_of l.self ≡ front ++ joined_parts (drop l.part-index l.self.parts.items))
    × Appends (g.W.Write.contents l.fn.writer) (g.W.Write.contents l.writer) front
