use Rattle.std.proofs.Common.{refl}
use Rattle.sentry_parts.specs.DebugImages.{wasm_fields}
use Rattle.sentry_parts.proofs.other_images.WasmDebugImageReadTable.read.Goals as goal

pub returns : goal.returns
unfolding wasm_fields
returns g c = (_, c.text.ensures, (_, c.optional.ensures, (_, c.optional-2.ensures, (_, c.required_as.ensures, (_, c.text-2.ensures, refl)))))
