-- What debuggers need is written as nothing exactly where it is empty.
use Rattle.std.proofs.Common.{◌≡◌, ◌↔◌, List, [], ◌∷◌, Bool, true, false, Option, Some, None, refl, IsTrue}
use Rattle.serde_json.specs.Data.{no_members}
use Rattle.sentry_tables.specs.Cell.{same_cell, fields, cell, no_cells}
use Rattle.sentry_tables.specs.Norm.{norm}
use Rattle.sentry_tables.specs.Cells.{list_cell, option_cell}
use Rattle.sentry_parts.specs.DebugImages.{image_cell}
use Rattle.sentry_parts.specs.Debugging.{empty_meta, debug_meta_cell, debug_meta_fields, debug_meta_kind, system_cell}
use Rattle.sentry_parts.specs.declared.debug_image.DebugImage.{DebugImage}
use Rattle.sentry_parts.specs.declared.debug_meta.DebugMeta.{DebugMeta}
use Rattle.sentry_parts.specs.declared.system_sdk_info.SystemSdkInfo.{SystemSdkInfo}

is_false : (b : Bool) → (b ≡ true → ⊥) → b ≡ false
is_false true h = absurd (h refl)
is_false false h = refl

pub is_usual : (m : DebugMeta) (empty : Bool) → IsTrue empty ↔ ((m.sdk_info ≡ None) × (m.images.items ≡ [])) → empty ≡ same_cell (norm debug_meta_kind (debug_meta_cell m)) empty_meta
unfolding debug_meta_fields
is_usual m empty h = at m.images.items m.sdk_info h
  where
    at : (images : List DebugImage) (sdk : Option SystemSdkInfo) → IsTrue empty ↔ ((sdk ≡ None) × (images ≡ []))
        → empty ≡ same_cell (norm debug_meta_kind (fields (cell (list_cell image_cell images) (cell (option_cell system_cell sdk) no_cells)) no_members)) empty_meta
    at [] None h = h.1 (refl, refl)
    at [] (Some s) h = is_false empty (λ e. let p = h.0 e in absurd cc)
    at (i ∷ images) sdk h = is_false empty (λ e. let p = h.0 e in absurd cc)
