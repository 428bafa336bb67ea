use Rattle.std.proofs.Common.{refl}
use Rattle.sentry_parts.specs.DebugImages.{symbolic_fields}
use Rattle.sentry_parts.proofs.native_images.SymbolicDebugImageCopyTable.copy_rows.Goals as goal

pub returns : goal.returns
unfolding symbolic_fields
returns c = (_, c.optional.ensures, (_, c.optional-2.ensures, (_, c.optional-3.ensures, (_, c.plain.ensures, (_, c.plain-2.ensures, (_, c.plain-3.ensures, (_, c.plain-4.ensures, (_, c.text.ensures, refl))))))))
