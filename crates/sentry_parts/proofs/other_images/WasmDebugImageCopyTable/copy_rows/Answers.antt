use Rattle.std.proofs.Common.{refl}
use Rattle.sentry_parts.specs.DebugImages.{wasm_fields}
use Rattle.sentry_parts.proofs.other_images.WasmDebugImageCopyTable.copy_rows.Goals as goal

pub returns : goal.returns
unfolding wasm_fields
returns c = (_, c.text.ensures, (_, c.optional.ensures, (_, c.optional-2.ensures, (_, c.plain_as.ensures, (_, c.text-2.ensures, refl)))))
