use Rattle.std.proofs.Common.{◌≡◌, ◌++◌, List, ℕ, drop}
use Rattle.std.specs.Io.KnownBytes.{Appends}
use Rattle.sentry_items.specs.Texts.{bytes_of, parts_bytes}
use Rattle.sentry_items.proofs.text.Text.send_counting.Given as goal

abbrev pub invariant-loop-part : goal.invariant-loop-part
invariant-loop-part g l = record {
  no_failure : l.failures ≡ l.fn.failures;
  sent : (front : List ℕ) × (bytes_of l.self ≡ front ++ (parts_bytes (drop l.part-index l.self.parts.items) ++ l.self.end.items))
      × Appends (g.W.Write.contents l.fn.writer) (g.W.Write.contents l.writer) front;
}
