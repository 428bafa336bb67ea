use Rattle.std.proofs.Common.{refl}
use Rattle.sentry_frames.specs.Mechanisms.{mechanism_fields}
use Rattle.sentry_frames.proofs.mechanism.MechanismCopyTable.copy_rows.Goals as goal

pub returns : goal.returns
unfolding mechanism_fields
returns c = (_, c.in_ok-map.ensures, (_, c.optional.ensures, (_, c.optional-2.ensures, (_, c.optional_as.ensures, (_, c.in_ok-of.ensures, (_, c.optional-3.ensures, (_, c.text.ensures, refl)))))))
