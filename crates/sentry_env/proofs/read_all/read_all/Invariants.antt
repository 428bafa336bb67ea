use Rattle.std.proofs.Common.{◌≡◌, ◌-◌, ◌^◌, vec_len}
use Rattle.std.specs.Io.KnownBytes.{Consumes}
use Rattle.sentry_items.specs.Counted.{reader_inside, reader_failures}
use Rattle.sentry_env.proofs.read_all.read_all.Given as goal

abbrev pub invariant-loop-count : goal.invariant-loop-count
invariant-loop-count g l = record {
  no_failure : reader_failures l.reader ≡ reader_failures l.fn.reader;
  got : Consumes (g.R.Read.remaining (reader_inside l.fn.reader)) (g.R.Read.remaining (reader_inside l.reader)) l.bytes.items;
}

abbrev pub decreases-loop-count : goal.decreases-loop-count
decreases-loop-count g l = 2 ^ 63 - vec_len l.bytes
