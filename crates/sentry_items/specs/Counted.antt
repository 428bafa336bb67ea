-- What a counted writer or reader shows: what it holds inside, and how many calls failed.
use Rattle.std.specs.Prelude.{ℕ, Bool, true, false, Result, Ok, Err}
use Rattle.sentry_items.specs.declared.counted.CountedWriter.{CountedWriter}
use Rattle.sentry_items.specs.declared.counted.CountedReader.{CountedReader}

abbrev pub writer_inside : {W : Type 0} → CountedWriter W → W
writer_inside writer = writer.inner

abbrev pub writer_failures : {W : Type 0} → CountedWriter W → ℕ
writer_failures writer = writer.failures

abbrev pub reader_inside : {R : Type 0} → CountedReader R → R
reader_inside reader = reader.inner

abbrev pub reader_failures : {R : Type 0} → CountedReader R → ℕ
reader_failures reader = reader.failures

-- a read fails by an error
abbrev pub read_fails : {E : Type 0} → Result ℕ E → Bool
read_fails (Ok count) = false
read_fails (Err error) = true
