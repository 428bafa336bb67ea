use Rattle.std.proofs.Common.{◌≡◌, ◌++◌, drop}
use Rattle.sentry_items.specs.Texts.{bytes_of, parts_bytes}
use Rattle.sentry_items.proofs.Texts.{pieces_bytes}
use Rattle.sentry_items.proofs.text.Text.pieces.Given as goal

-- the pieces so far and what is left make the whole
abbrev pub invariant-loop-part : goal.invariant-loop-part
invariant-loop-part l = bytes_of l.self ≡ pieces_bytes l.pieces.items ++ (parts_bytes (drop l.part-index l.self.parts.items) ++ l.self.end.items)
