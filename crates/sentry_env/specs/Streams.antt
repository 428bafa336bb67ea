-- The streams of a run: its input, its output, and the table of what is lost.
use Rattle.std.specs.Prelude.{◌≡◌, ℕ, ◌+◌, List, Option}
use Rattle.std.specs.Io.KnownBytes.{Appends, Consumes, IsAtEnd, Keeps}
use Rattle.sentry_framing.specs.Sending.{AppendsFront}
use Rattle.sentry_items.specs.Counted.{reader_failures, reader_inside, writer_failures, writer_inside}
use Rattle.sentry_items.specs.declared.counted.CountedReader.{CountedReader}
use Rattle.sentry_items.specs.declared.counted.CountedWriter.{CountedWriter}

-- the bytes that a reader has left or a writer holds, where they are known, and how many of its
-- calls failed
pub record Stream : Type 0 where
  pub bytes : Option (List ℕ)
  pub failures : ℕ

abbrev pub reader_stream : {R : Type 0} → (R → Option (List ℕ)) → CountedReader R → Stream
reader_stream remaining reader = record { bytes = remaining (reader_inside reader); failures = reader_failures reader }

abbrev pub writer_stream : {W : Type 0} → (W → Option (List ℕ)) → CountedWriter W → Stream
writer_stream contents writer = record { bytes = contents (writer_inside writer); failures = writer_failures writer }

pub record Streams : Type 0 where
  pub input : Stream
  pub out : Stream
  pub table : Stream

abbrev pub streams : {R W T : Type 0} → (R → Option (List ℕ)) → (W → Option (List ℕ)) → (T → Option (List ℕ)) → CountedReader R → CountedWriter W → CountedWriter T → Streams
streams remaining contents table_contents reader out table =
    record { input = reader_stream remaining reader; out = writer_stream contents out; table = writer_stream table_contents table }

-- a reader gives these bytes, which are all that it has left, and no read fails
pub record GivesAll (old new : Stream) (bytes : List ℕ) : Type 0 where
  pub consumed : Consumes old.bytes new.bytes bytes
  pub ended : IsAtEnd new.bytes
  pub no_failure : new.failures ≡ old.failures

-- a reader gives all that it has left, and P holds of that
pub record Reads (old new : Stream) (P : List ℕ → Type 0) : Type 0 where
  pub bytes : List ℕ
  pub gives : GivesAll old new bytes
  pub meant : P bytes

-- a writer gets the whole text, and no write fails
abbrev pub Gets : Stream → Stream → List ℕ → Type 0
Gets old new text = Appends old.bytes new.bytes text × (new.failures ≡ old.failures)

-- it gets a beginning of the text that isn't the whole, and one write fails
abbrev pub Breaks : Stream → Stream → List ℕ → Type 0
Breaks old new text = AppendsFront old.bytes new.bytes text × (new.failures ≡ old.failures + 1)

-- it gets nothing, and no write fails
abbrev pub Stays : Stream → Stream → Type 0
Stays old new = Keeps old.bytes new.bytes × (new.failures ≡ old.failures)
