-- How the program ends: the status of each answer, and the line that standard error gets.
use Rattle.std.specs.Prelude.{ℕ, List, [], Result, Ok, Err, codes}
use Rattle.sentry_framing.specs.declared.error.EnvelopeError.{EnvelopeError}
use Rattle.sentry_framing.specs.declared.error.EnvelopeError.TheVariants as fault
use Rattle.sentry_env.specs.declared.read_all.ReadError.{ReadError}
use Rattle.sentry_env.specs.declared.read_all.ReadError.TheVariants as reading
use Rattle.sentry_env.specs.declared.ending.Outcome.{Outcome}
use Rattle.sentry_env.specs.declared.ending.Outcome.TheVariants as outcome
use Rattle.sentry_env.specs.declared.ending.RunError.{RunError}
use Rattle.sentry_env.specs.declared.ending.RunError.TheVariants as error

-- what a run answers where not all was read
abbrev pub run_error_of : ReadError → RunError
run_error_of reading.Read = error.Read
run_error_of reading.Memory = error.Memory

-- what a run answers where bytes are no envelope, or couldn't be read as one
abbrev pub refusal_of : EnvelopeError → RunError
refusal_of fault.OutOfMemory = error.Memory
refusal_of x = error.Refused x

-- a status, and a line without its newline; no line is the empty one
pub record Ending : Type 0 where
  pub status : ℕ
  pub line : List ℕ

abbrev pub ends : ℕ → List ℕ → Ending
ends status line = record { status = status; line = line }

-- the end for each answer of a run
abbrev pub ending_of : Result Outcome RunError → Ending
ending_of (Ok outcome.Written) = ends 0 []
ending_of (Ok outcome.NothingLeft) = ends 1 []
ending_of (Err (error.Refused fault.UnexpectedEof)) = ends 2 (codes "sentry_env: unexpected end of file")
ending_of (Err (error.Refused fault.MissingHeader)) = ends 2 (codes "sentry_env: missing envelope header")
ending_of (Err (error.Refused fault.MissingItemHeader)) = ends 2 (codes "sentry_env: missing item header")
ending_of (Err (error.Refused fault.MissingNewline)) = ends 2 (codes "sentry_env: missing newline after header or payload")
ending_of (Err (error.Refused fault.InvalidHeader)) = ends 2 (codes "sentry_env: invalid envelope header")
ending_of (Err (error.Refused fault.InvalidItemHeader)) = ends 2 (codes "sentry_env: invalid item header")
ending_of (Err (error.Refused fault.InvalidItemPayload)) = ends 2 (codes "sentry_env: invalid item payload")
ending_of (Err (error.Refused fault.OutOfMemory)) = ends 4 (codes "sentry_env: out of memory")
ending_of (Err error.Read) = ends 2 (codes "sentry_env: unexpected end of file")
ending_of (Err error.Memory) = ends 4 (codes "sentry_env: out of memory")
ending_of (Err error.Write) = ends 4 (codes "sentry_env: write failed")

-- the end where the words are no call
abbrev pub usage_ending : Ending
usage_ending = ends 3 (codes "usage: sentry_env [-k] [-f PATH] KIND..")
