use Rattle.std.proofs.Common.{refl}
use Rattle.sentry_parts.specs.DebugImages.{apple_fields}
use Rattle.sentry_parts.proofs.native_images.AppleDebugImageCopyTable.copy_rows.Goals as goal

pub returns : goal.returns
unfolding apple_fields
returns c = (_, c.optional.ensures, (_, c.optional-2.ensures, (_, c.optional-3.ensures, (_, c.plain.ensures, (_, c.plain-2.ensures, (_, c.plain-3.ensures, (_, c.text.ensures, (_, c.plain_as.ensures, refl))))))))
