use Rattle.std.proofs.Common.{refl}
use Rattle.sentry_frames.specs.Mechanisms.{mechanism_fields}
use Rattle.sentry_frames.proofs.mechanism.MechanismReadTable.read.Goals as goal

pub returns : goal.returns
unfolding mechanism_fields
returns g c = (_, c.map.ensures, (_, c.optional.ensures, (_, c.optional-2.ensures, (_, c.optional_as.ensures, (_, c.or_as.ensures, (_, c.optional-3.ensures, (_, c.text.ensures, refl)))))))
