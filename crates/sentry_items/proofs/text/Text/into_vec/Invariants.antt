use Rattle.std.proofs.Common.{◌≡◌, ◌++◌, drop}
use Rattle.sentry_items.specs.Texts.{bytes_of, parts_bytes}
use Rattle.sentry_items.proofs.text.Text.into_vec.Given as goal

-- what was copied and what is left make the whole
abbrev pub invariant-loop-part : goal.invariant-loop-part
invariant-loop-part l = bytes_of l.fn.self ≡ l.whole.items ++ (parts_bytes (drop l.part-index l.fn.self.parts.items) ++ l.fn.self.end.items)
