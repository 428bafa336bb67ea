-- What a run did, by where it ended.
use Rattle.std.proofs.Common.{◌≡◌, ◌≢◌, ℕ, true, false, List, [], ◌∷◌, length, ◌==◌, Option, Some, None, Ok, Err, inl, refl, ap, arith}
use Rattle.std.proofs.KnownBytes.{Appends-nil}
use Rattle.std.proofs.lemmas.Bool.{eqb-true}
use Rattle.std.specs.Io.KnownBytes.{Keeps}
use Rattle.sentry_envelope.specs.EnvelopeFault.{Fault}
use Rattle.sentry_envelope.specs.FilteredText.{IsTextOfLeft}
use Rattle.sentry_envelope.specs.NormalText.{IsNormalText}
use Rattle.sentry_envelope.specs.SentryProfile.{profile}
use Rattle.sentry_framing.specs.declared.error.EnvelopeError.{EnvelopeError}
use Rattle.sentry_framing.specs.declared.kind.ItemKind.{ItemKind}
use Rattle.sentry_framing.specs.declared.error.EnvelopeError.TheVariants as fault
use Rattle.sentry_program.specs.Table.{table_of}
use Rattle.sentry_reports.specs.declared.item_loss.ItemLoss.{ItemLoss}
use Rattle.sentry_env.specs.Ending.{refusal_of}
use Rattle.sentry_envelope.specs.FilteredText.{is_none_of}
use Rattle.sentry_env.specs.Run.{Due, IsDueBy, IsDueFor, IsRestDue, IsWholeDue, Runs, Sends, Settings, WritesNothing, dues, left_due}
use Rattle.sentry_env.specs.Streams.{Breaks, Gets, GivesAll, Reads, Stays, Stream, Streams}
use Rattle.sentry_env.specs.declared.ending.Outcome.TheVariants.{Written}
use Rattle.sentry_env.specs.declared.ending.RunError.{RunError}
use Rattle.sentry_env.specs.declared.ending.RunError.TheVariants as error

keeps : (known : Option (List ℕ)) → Keeps known known
keeps None = tt
keeps (Some bytes) = refl

stays : (s : Stream) → Stays s s
stays s = (keeps s.bytes, refl)

gets_nothing : (s : Stream) → Gets s s []
gets_nothing s = (Appends-nil s.bytes, refl)

nothing : (old : Streams) (input : Stream) → WritesNothing old (record old { input = input })
nothing old input = (stays old.out, stays old.table)

-- the bytes were refused, or memory was
pub refused : (set : Settings) (old : Streams) {input : Stream} {bytes given : List ℕ} (x : EnvelopeError) → GivesAll old.input input bytes → given ≡ bytes → (x ≢ fault.OutOfMemory → Fault profile given x)
    → Runs set old (record old { input = input }) (Err (refusal_of x))
refused set old {input} fault.OutOfMemory gives same faulty = (gives.no_failure, nothing old input)
refused set old {input} {bytes} x gives same faulty = (record { bytes = bytes; gives = gives; meant = rw same at (faulty (λ is. cc)) }, nothing old input)

none_due : (kinds : List ItemKind) (set : Settings) (due : Due) (bytes : List ℕ) → (length kinds == 0) ≡ true → IsWholeDue set.now due bytes → IsDueBy kinds set due bytes
none_due [] set due bytes none whole = whole
none_due (kind ∷ kinds) set due bytes none whole = absurd (omega (arith, eqb-true (length (kind ∷ kinds)) 0 none))

some_due : (kinds : List ItemKind) (set : Settings) (due : Due) (bytes : List ℕ) → (length kinds == 0) ≡ false → IsRestDue set due bytes → IsDueBy kinds set due bytes
some_due [] set due bytes some rest = cc
some_due (kind ∷ kinds) set due bytes some rest = rest

-- without kinds, the text of the normal form is due for the bytes
pub reads_whole : (set : Settings) {old new : Stream} {bytes given : List ℕ} (text : List ℕ) → (length set.kinds == 0) ≡ true → GivesAll old new bytes → given ≡ bytes → IsNormalText given set.now text
    → Reads old new (IsDueFor set (dues text [] Written))
reads_whole set {bytes = bytes} text none gives same normal =
    let whole : IsWholeDue set.now (dues text [] Written) bytes = record { envelope = normal.envelope; spells = rw same at normal.spells; due_is = ap (λ (t : List ℕ). dues t [] Written) normal.text_is } in
    record { bytes = bytes; gives = gives; meant = none_due set.kinds set (dues text [] Written) bytes none whole }

-- with kinds, the text of what is left is due for the bytes, and the table of the losses
pub reads_left : (set : Settings) {old new : Stream} {bytes given : List ℕ} (text : Option (List ℕ)) (losses : List ItemLoss) (table : List ℕ) → (length set.kinds == 0) ≡ false → GivesAll old new bytes → given ≡ bytes
    → IsTextOfLeft (is_none_of set.kinds) set.keep_headers given set.now text losses → table ≡ table_of losses → Reads old new (IsDueFor set (left_due text table))
reads_left set {bytes = bytes} text losses table some gives same left is =
    let rest : IsRestDue set (left_due text table) bytes = record { text = text; losses = losses; left = rw same at left; due_is = ap (left_due text) is } in
    record { bytes = bytes; gives = gives; meant = some_due set.kinds set (left_due text table) bytes some rest }

-- the text that is due was not sent whole, one write failed, and nothing was written of the table
pub broken : (set : Settings) (old : Streams) (out : Stream) (due : Due) {input : Stream} → Reads old.input input (IsDueFor set due) → Breaks old.out out due.out → Runs set old (record old { input = input; out = out }) (Err error.Write)
broken set old out due reads breaks = record { due = due; reads = reads; part = inl (breaks, stays old.table) }

-- the text that is due was not sent, and nothing was written of the table
pub unsent : (set : Settings) (old : Streams) (out : Stream) (due : Due) {input : Stream} (e : RunError) → Reads old.input input (IsDueFor set due) → Sends {A = Unit {0}} old.out out due.out (Err e)
    → Runs set old (record old { input = input; out = out }) (Err e)
unsent set old out due (error.Refused x) reads sends = absurd sends
unsent set old out due error.Read reads sends = absurd sends
unsent set old out due error.Memory reads sends = (reads.gives.no_failure, (sends, stays old.table))
unsent set old out due error.Write reads sends = broken set old out due reads sends

-- the text that is due without a table was sent, and nothing is written of a table
pub written : (set : Settings) (old : Streams) (out : Stream) (text : List ℕ) {input : Stream} → Reads old.input input (IsDueFor set (dues text [] Written)) → Gets old.out out text → Runs set old (record old { input = input; out = out }) (Ok Written)
written set old out text reads gets = record { due = dues text [] Written; reads = reads; out_gets = gets; table_gets = gets_nothing old.table; outcome_is = refl }
