-- by hand: the numbers fit their types
use Rattle.std.proofs.Common.{SFits, w32, refl, rules, to_z-of_z}
use Rattle.sentry_frames.specs.Causes.{mach_fields}
use Rattle.sentry_frames.proofs.mach_exception.MachExceptionReadTable.read.Goals as goal

pub returns : goal.returns
unfolding mach_fields
returns g c =
    let fits : SFits w32 c.required-2.result = search rules in
    rw (to_z-of_z fits) (_, c.required.ensures, (_, c.required-2.ensures, (_, c.optional.ensures, (_, c.required-3.ensures, refl))))
