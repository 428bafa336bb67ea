use Rattle.std.proofs.Common.{◌≡◌, take}
use Rattle.sentry_tables.specs.Cells.{cow_cell, cells}
use Rattle.sentry_event.proofs.fingerprint.owned_texts.Given as goal

abbrev pub invariant-loop-text : goal.invariant-loop-text
invariant-loop-text l = cells cow_cell l.list.items ≡ cells cow_cell (take l.text-index l.text-items)
