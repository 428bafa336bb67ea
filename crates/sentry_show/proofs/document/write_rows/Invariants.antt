use Rattle.std.proofs.Common.{take}
use Rattle.std.specs.List.{flat_map}
use Rattle.sentry_tables.specs.Writes.{Continues}
use Rattle.sentry_show.specs.Document.{row_tokens}
use Rattle.sentry_show.proofs.document.write_rows.Given as goal

abbrev pub invariant-loop-row : goal.invariant-loop-row
invariant-loop-row l = Continues l.fn.out l.out (flat_map row_tokens (take l.row-index l.rows))
