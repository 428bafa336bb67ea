-- by hand: the numbers fit their types
use Rattle.std.proofs.Common.{SFits, w32, refl, rules, to_z-of_z}
use Rattle.sentry_frames.specs.Causes.{signal_fields}
use Rattle.sentry_frames.proofs.posix_signal.PosixSignalReadTable.read.Goals as goal

pub returns : goal.returns
unfolding signal_fields
returns g c =
    let fits : SFits w32 c.required.result = search rules in
    rw (to_z-of_z fits) (_, c.optional.ensures, (_, c.optional-2.ensures, (_, c.optional-3.ensures, (_, c.required.ensures, refl))))
