use Rattle.std.proofs.Common.{refl}
use Rattle.sentry_parts.specs.DebugImages.{apple_fields}
use Rattle.sentry_parts.proofs.native_images.AppleDebugImageReadTable.read.Goals as goal

pub returns : goal.returns
unfolding apple_fields
returns g c = (_, c.optional_or_null.ensures, (_, c.optional_or_null-2.ensures, (_, c.optional_or_null-3.ensures, (_, c.required.ensures, (_, c.required-2.ensures, (_, c.or.ensures, (_, c.text.ensures, (_, c.required_as.ensures, refl))))))))
