-- What `==` says of debug images and of what debuggers need: they are equal exactly where their cells are the same.
use Rattle.std.proofs.Common.{◌≡◌, ◌==◌, ap, Decides}
use Rattle.std.proofs.lemmas.Bool.Decides.{Decides-and, Decides-like}
use Rattle.std.specs.String.{string_eq}
use Rattle.sentry_tables.specs.Cell.{choice, text}
use Rattle.sentry_tables.specs.Cells.{text_cell, natural_cell}
use Rattle.sentry_tables.proofs.Equal.{texts_decide, naturals_decide, options_decide, lists_decide}
use Rattle.sentry_text.specs.contracts.addr.AddrPartialEq.TheImpl.{eq-value as of_addresses}
use Rattle.sentry_text.specs.declared.addr.Addr.{Addr}
use Rattle.sentry_identifiers.specs.CodeId.{code_text}
use Rattle.sentry_identifiers.specs.DebugId.{debug_parts}
use Rattle.sentry_identifiers.specs.DebugIdTree.{debug_cell}
use Rattle.sentry_identifiers.specs.contracts.code_id.CodeIdPartialEq.TheImpl.{eq-value as of_code_ids}
use Rattle.sentry_identifiers.specs.contracts.debug_id.DebugIdPartialEq.TheImpl.{eq-value as of_debug_ids}
use Rattle.sentry_identifiers.specs.declared.code_id.CodeId.{CodeId}
use Rattle.sentry_identifiers.specs.declared.debug_id.DebugId.{DebugId}
use Rattle.sentry_parts.specs.DebugImages.{apple_fields, apple_cell, symbolic_fields, symbolic_cell, proguard_fields, proguard_cell, wasm_fields, wasm_cell, image_cell}
use Rattle.sentry_parts.specs.Debugging.{debug_meta_fields, debug_meta_cell, system_fields, system_cell}
use Rattle.sentry_parts.specs.contracts.debug_image.DebugImagePartialEq.TheImpl.{eq-value as of_images}
use Rattle.sentry_parts.specs.contracts.debug_meta.DebugMetaPartialEq.TheImpl.{eq-value as of_metas}
use Rattle.sentry_parts.specs.contracts.native_images.AppleDebugImagePartialEq.TheImpl.{eq-value as of_apples}
use Rattle.sentry_parts.specs.contracts.native_images.SymbolicDebugImagePartialEq.TheImpl.{eq-value as of_symbolics}
use Rattle.sentry_parts.specs.contracts.other_images.ProguardDebugImagePartialEq.TheImpl.{eq-value as of_proguards}
use Rattle.sentry_parts.specs.contracts.other_images.WasmDebugImagePartialEq.TheImpl.{eq-value as of_wasms}
use Rattle.sentry_parts.specs.contracts.system_sdk_info.SystemSdkInfoPartialEq.TheImpl.{eq-value as of_systems}
use Rattle.sentry_parts.specs.declared.debug_image.DebugImage.{DebugImage}
use Rattle.sentry_parts.specs.declared.debug_image.DebugImage.TheVariants as Image
use Rattle.sentry_parts.specs.declared.debug_meta.DebugMeta.{DebugMeta}
use Rattle.sentry_parts.specs.declared.native_images.AppleDebugImage.{AppleDebugImage}
use Rattle.sentry_parts.specs.declared.native_images.SymbolicDebugImage.{SymbolicDebugImage}
use Rattle.sentry_parts.specs.declared.other_images.ProguardDebugImage.{ProguardDebugImage}
use Rattle.sentry_parts.specs.declared.other_images.WasmDebugImage.{WasmDebugImage}
use Rattle.sentry_parts.specs.declared.system_sdk_info.SystemSdkInfo.{SystemSdkInfo}
use Rattle.sentry_parts.proofs.EqualParts.{ids_decide}

-- ---- ids and addresses

addresses_decide : (a b : Addr) → Decides (of_addresses.it a b) (natural_cell a.0 ≡ natural_cell b.0)
addresses_decide a b = naturals_decide a.0 b.0

debug_ids_decide : (a b : DebugId) → Decides (of_debug_ids.it a b) (debug_cell (debug_parts a) ≡ debug_cell (debug_parts b))
debug_ids_decide a b =
    let parts = Decides-and _ _ (ids_decide a.uuid b.uuid) (naturals_decide a.appendix b.appendix) in
    (λ same. let e = parts.0 same in let id = e.0 in let appendix = e.1 in cc, λ same. parts.1 (cc, cc))

code_ids_decide : (a b : CodeId) → Decides (of_code_ids.it a b) (text (code_text a) ≡ text (code_text b))
code_ids_decide a b = texts_decide a.digits b.digits

-- ---- images

pub apples_decide : (a b : AppleDebugImage) → Decides (of_apples.it a b) (apple_cell a ≡ apple_cell b)
unfolding apple_fields
apples_decide a b =
    let parts = Decides-and _ _ (texts_decide a.name b.name)
    (Decides-and _ _ (options_decide string_eq text_cell texts_decide a.arch b.arch)
    (Decides-and _ _ (options_decide (λ m n. m == n) natural_cell naturals_decide a.cpu_type b.cpu_type)
    (Decides-and _ _ (options_decide (λ m n. m == n) natural_cell naturals_decide a.cpu_subtype b.cpu_subtype)
    (Decides-and _ _ (addresses_decide a.image_addr b.image_addr)
    (Decides-and _ _ (naturals_decide a.image_size b.image_size)
    (Decides-and _ _ (addresses_decide a.image_vmaddr b.image_vmaddr) (ids_decide a.uuid b.uuid))))))) in (
      λ same.
          let e = parts.0 same in
          let name = e.0 in
          let arch = e.1.0 in
          let kind = e.1.1.0 in
          let lower = e.1.1.1.0 in
          let start = e.1.1.1.1.0 in
          let size = e.1.1.1.1.1.0 in
          let wanted = e.1.1.1.1.1.1.0 in
          let id = e.1.1.1.1.1.1.1 in
          cc,
      λ same. parts.1 (cc, (cc, (cc, (cc, (cc, (cc, (cc, cc))))))),
    )

pub symbolics_decide : (a b : SymbolicDebugImage) → Decides (of_symbolics.it a b) (symbolic_cell a ≡ symbolic_cell b)
unfolding symbolic_fields
symbolics_decide a b =
    let parts = Decides-and _ _ (texts_decide a.name b.name)
    (Decides-and _ _ (options_decide string_eq text_cell texts_decide a.arch b.arch)
    (Decides-and _ _ (addresses_decide a.image_addr b.image_addr)
    (Decides-and _ _ (naturals_decide a.image_size b.image_size)
    (Decides-and _ _ (addresses_decide a.image_vmaddr b.image_vmaddr)
    (Decides-and _ _ (debug_ids_decide a.id b.id)
    (Decides-and _ _ (options_decide of_code_ids.it (λ id. text (code_text id)) code_ids_decide a.code_id b.code_id)
    (options_decide string_eq text_cell texts_decide a.debug_file b.debug_file))))))) in (
      λ same.
          let e = parts.0 same in
          let name = e.0 in
          let arch = e.1.0 in
          let start = e.1.1.0 in
          let size = e.1.1.1.0 in
          let wanted = e.1.1.1.1.0 in
          let id = e.1.1.1.1.1.0 in
          let code = e.1.1.1.1.1.1.0 in
          let file = e.1.1.1.1.1.1.1 in
          cc,
      λ same. parts.1 (cc, (cc, (cc, (cc, (cc, (cc, (cc, cc))))))),
    )

pub proguards_decide : (a b : ProguardDebugImage) → Decides (of_proguards.it a b) (proguard_cell a ≡ proguard_cell b)
unfolding proguard_fields
proguards_decide a b =
    let id = ids_decide a.uuid b.uuid in
    (λ same. let e = id.0 same in cc, λ same. id.1 (cc))

pub wasms_decide : (a b : WasmDebugImage) → Decides (of_wasms.it a b) (wasm_cell a ≡ wasm_cell b)
unfolding wasm_fields
wasms_decide a b =
    let parts = Decides-and _ _ (texts_decide a.name b.name)
    (Decides-and _ _ (ids_decide a.debug_id b.debug_id)
    (Decides-and _ _ (options_decide string_eq text_cell texts_decide a.debug_file b.debug_file)
    (Decides-and _ _ (options_decide string_eq text_cell texts_decide a.code_id b.code_id) (texts_decide a.code_file b.code_file)))) in (
      λ same.
          let e = parts.0 same in
          let name = e.0 in
          let id = e.1.0 in
          let file = e.1.1.0 in
          let code = e.1.1.1.0 in
          let code_file = e.1.1.1.1 in
          cc,
      λ same. parts.1 (cc, (cc, (cc, (cc, cc)))),
    )

pub images_decide : (a b : DebugImage) → Decides (of_images.it a b) (image_cell a ≡ image_cell b)
images_decide (Image.Apple a) (Image.Apple b) = Decides-like (of_apples.it a b) (λ same. ap (choice 0) same) (λ same. cc) (apples_decide a b)
images_decide (Image.Apple a) (Image.Symbolic b) = (λ same. cc, λ same. cc)
images_decide (Image.Apple a) (Image.Proguard b) = (λ same. cc, λ same. cc)
images_decide (Image.Apple a) (Image.Wasm b) = (λ same. cc, λ same. cc)
images_decide (Image.Symbolic a) (Image.Apple b) = (λ same. cc, λ same. cc)
images_decide (Image.Symbolic a) (Image.Symbolic b) = Decides-like (of_symbolics.it a b) (λ same. ap (choice 1) same) (λ same. cc) (symbolics_decide a b)
images_decide (Image.Symbolic a) (Image.Proguard b) = (λ same. cc, λ same. cc)
images_decide (Image.Symbolic a) (Image.Wasm b) = (λ same. cc, λ same. cc)
images_decide (Image.Proguard a) (Image.Apple b) = (λ same. cc, λ same. cc)
images_decide (Image.Proguard a) (Image.Symbolic b) = (λ same. cc, λ same. cc)
images_decide (Image.Proguard a) (Image.Proguard b) = Decides-like (of_proguards.it a b) (λ same. ap (choice 2) same) (λ same. cc) (proguards_decide a b)
images_decide (Image.Proguard a) (Image.Wasm b) = (λ same. cc, λ same. cc)
images_decide (Image.Wasm a) (Image.Apple b) = (λ same. cc, λ same. cc)
images_decide (Image.Wasm a) (Image.Symbolic b) = (λ same. cc, λ same. cc)
images_decide (Image.Wasm a) (Image.Proguard b) = (λ same. cc, λ same. cc)
images_decide (Image.Wasm a) (Image.Wasm b) = Decides-like (of_wasms.it a b) (λ same. ap (choice 3) same) (λ same. cc) (wasms_decide a b)

-- ---- what debuggers need

pub systems_decide : (a b : SystemSdkInfo) → Decides (of_systems.it a b) (system_cell a ≡ system_cell b)
unfolding system_fields
systems_decide a b =
    let parts = Decides-and _ _ (texts_decide a.sdk_name b.sdk_name)
    (Decides-and _ _ (naturals_decide a.version_major b.version_major)
    (Decides-and _ _ (naturals_decide a.version_minor b.version_minor) (naturals_decide a.version_patchlevel b.version_patchlevel))) in
    (λ same. let e = parts.0 same in let name = e.0 in let major = e.1.0 in let minor = e.1.1.0 in let patch = e.1.1.1 in cc, λ same. parts.1 (cc, (cc, (cc, cc))))

pub metas_decide : (a b : DebugMeta) → Decides (of_metas.it a b) (debug_meta_cell a ≡ debug_meta_cell b)
unfolding debug_meta_fields
metas_decide a b =
    let parts = Decides-and _ _ (options_decide of_systems.it system_cell systems_decide a.sdk_info b.sdk_info) (lists_decide of_images.it image_cell images_decide a.images.items b.images.items) in
    (λ same. let e = parts.0 same in let system = e.0 in let images = e.1 in cc, λ same. parts.1 (cc, cc))
