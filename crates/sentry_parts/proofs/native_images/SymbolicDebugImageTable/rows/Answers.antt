use Rattle.std.proofs.Common.{refl}
use Rattle.sentry_parts.specs.DebugImages.{symbolic_fields}
use Rattle.sentry_parts.proofs.native_images.SymbolicDebugImageTable.rows.Goals as goal

pub returns : goal.returns
unfolding symbolic_fields
returns g c = (_, c.optional_or_null.ensures, (_, c.optional.ensures, (_, c.optional-2.ensures, (_, c.required.ensures, (_, c.required-2.ensures, (_, c.required-3.ensures, (_, c.unless.ensures, (_, c.required-4.ensures, refl))))))))
