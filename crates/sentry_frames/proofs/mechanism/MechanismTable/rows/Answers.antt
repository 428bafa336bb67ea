use Rattle.std.proofs.Common.{refl}
use Rattle.sentry_frames.specs.Mechanisms.{mechanism_fields}
use Rattle.sentry_frames.proofs.mechanism.MechanismTable.rows.Goals as goal

pub returns : goal.returns
unfolding mechanism_fields
returns g c = (_, c.map.ensures, (_, c.optional.ensures, (_, c.optional-2.ensures, (_, c.optional_as.ensures, (_, c.unless_usual_as.ensures, (_, c.optional-3.ensures, (_, c.required.ensures, refl)))))))
