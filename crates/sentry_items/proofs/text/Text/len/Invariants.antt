use Rattle.std.proofs.Common.{◌≡◌, ◌+◌, ◌<◌, ◌^◌, drop, length}
use Rattle.sentry_items.specs.Texts.{bytes_of, parts_bytes}
use Rattle.sentry_items.proofs.text.Text.len.Given as goal

abbrev pub invariant-loop-part : goal.invariant-loop-part
invariant-loop-part l = record {
  counted : length (bytes_of l.self) ≡ l.len + length (parts_bytes (drop l.part-index l.self.parts.items));
  fits : l.len < 2 ^ 64;
}
