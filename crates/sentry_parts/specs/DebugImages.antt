-- The tables of debug images, and of images by their tag. Members of other keys are ignored.
use Rattle.std.specs.Prelude.{◌≡◌, ◌^◌, ℕ, List, [], ◌∷◌, codes, true, refl}
use Rattle.sentry_tables.specs.Cell.{Cell, octets, choice, text}
use Rattle.sentry_tables.specs.Fields.{Field, field, rows_of, table_of, fields_by}
use Rattle.sentry_tables.specs.Kind.{must, may, may_null, default, ignored, Kind, tagged, Cases, no_cases, case, keys}
use Rattle.sentry_tables.specs.Written.{in_order}
use Rattle.sentry_tables.specs.Cells.{text_cell, natural_cell, option_cell}
use Rattle.sentry_tables.specs.Kinds.{text_kind, unsigned_kind}
use Rattle.sentry_text.specs.AddressTree.{address_kind}
use Rattle.sentry_identifiers.specs.CodeId.{code_text}
use Rattle.sentry_identifiers.specs.CodeIdTree.{code_kind}
use Rattle.sentry_identifiers.specs.DebugId.{debug_parts}
use Rattle.sentry_identifiers.specs.DebugIdTree.{debug_cell, debug_kind}
use Rattle.sentry_identifiers.specs.Uuids.{hyphenated_kind}
use Rattle.sentry_parts.specs.declared.debug_image.DebugImage.{DebugImage}
use Rattle.sentry_parts.specs.declared.debug_image.DebugImage.TheVariants as Image
use Rattle.sentry_parts.specs.declared.native_images.AppleDebugImage.{AppleDebugImage}
use Rattle.sentry_parts.specs.declared.native_images.SymbolicDebugImage.{SymbolicDebugImage}
use Rattle.sentry_parts.specs.declared.other_images.ProguardDebugImage.{ProguardDebugImage}
use Rattle.sentry_parts.specs.declared.other_images.WasmDebugImage.{WasmDebugImage}

-- ---- images of Apple's platforms

unfoldable pub apple_fields : List (Field AppleDebugImage)
apple_fields =
    field (codes "arch") may_null text_kind (λ i. option_cell text_cell i.arch)
    ∷ field (codes "cpu_subtype") may_null (unsigned_kind (2 ^ 32)) (λ i. option_cell natural_cell i.cpu_subtype)
    ∷ field (codes "cpu_type") may_null (unsigned_kind (2 ^ 32)) (λ i. option_cell natural_cell i.cpu_type)
    ∷ field (codes "image_addr") must address_kind (λ i. natural_cell i.image_addr.0)
    ∷ field (codes "image_size") must (unsigned_kind (2 ^ 64)) (λ i. natural_cell i.image_size)
    ∷ field (codes "image_vmaddr") (default (natural_cell 0)) address_kind (λ i. natural_cell i.image_vmaddr.0)
    ∷ field (codes "name") must text_kind (λ i. text_cell i.name)
    ∷ field (codes "uuid") must hyphenated_kind (λ i. octets i.uuid)
    ∷ []

abbrev pub apple_kind : Kind
apple_kind = table_of apple_fields

abbrev pub apple_cell : AppleDebugImage → Cell
apple_cell i = fields_by apple_fields i

pub apple_in_order : in_order (keys (rows_of apple_fields)) ≡ true
unfolding apple_fields
apple_in_order = refl

-- ---- images of other native platforms

unfoldable pub symbolic_fields : List (Field SymbolicDebugImage)
symbolic_fields =
    field (codes "arch") may_null text_kind (λ i. option_cell text_cell i.arch)
    ∷ field (codes "code_id") may code_kind (λ i. option_cell (λ id. text (code_text id)) i.code_id)
    ∷ field (codes "debug_file") may text_kind (λ i. option_cell text_cell i.debug_file)
    ∷ field (codes "id") must debug_kind (λ i. debug_cell (debug_parts i.id))
    ∷ field (codes "image_addr") must address_kind (λ i. natural_cell i.image_addr.0)
    ∷ field (codes "image_size") must (unsigned_kind (2 ^ 64)) (λ i. natural_cell i.image_size)
    ∷ field (codes "image_vmaddr") (default (natural_cell 0)) address_kind (λ i. natural_cell i.image_vmaddr.0)
    ∷ field (codes "name") must text_kind (λ i. text_cell i.name)
    ∷ []

abbrev pub symbolic_kind : Kind
symbolic_kind = table_of symbolic_fields

abbrev pub symbolic_cell : SymbolicDebugImage → Cell
symbolic_cell i = fields_by symbolic_fields i

pub symbolic_in_order : in_order (keys (rows_of symbolic_fields)) ≡ true
unfolding symbolic_fields
symbolic_in_order = refl

-- ---- files of ProGuard

unfoldable pub proguard_fields : List (Field ProguardDebugImage)
proguard_fields = field (codes "uuid") must hyphenated_kind (λ i. octets i.uuid) ∷ []

abbrev pub proguard_kind : Kind
proguard_kind = table_of proguard_fields

abbrev pub proguard_cell : ProguardDebugImage → Cell
proguard_cell i = fields_by proguard_fields i

pub proguard_in_order : in_order (keys (rows_of proguard_fields)) ≡ true
unfolding proguard_fields
proguard_in_order = refl

-- ---- images of WebAssembly

unfoldable pub wasm_fields : List (Field WasmDebugImage)
wasm_fields =
    field (codes "code_file") must text_kind (λ i. text_cell i.code_file)
    ∷ field (codes "code_id") may text_kind (λ i. option_cell text_cell i.code_id)
    ∷ field (codes "debug_file") may text_kind (λ i. option_cell text_cell i.debug_file)
    ∷ field (codes "debug_id") must hyphenated_kind (λ i. octets i.debug_id)
    ∷ field (codes "name") must text_kind (λ i. text_cell i.name)
    ∷ []

abbrev pub wasm_kind : Kind
wasm_kind = table_of wasm_fields

abbrev pub wasm_cell : WasmDebugImage → Cell
wasm_cell i = fields_by wasm_fields i

pub wasm_in_order : in_order (keys (rows_of wasm_fields)) ≡ true
unfolding wasm_fields
wasm_in_order = refl

-- ---- by the tag

abbrev pub image_cases : Cases
image_cases =
    case (codes "apple") (rows_of apple_fields) ignored
    (case (codes "symbolic") (rows_of symbolic_fields) ignored
    (case (codes "proguard") (rows_of proguard_fields) ignored
    (case (codes "wasm") (rows_of wasm_fields) ignored no_cases)))

abbrev pub image_kind : Kind
image_kind = tagged image_cases

abbrev pub image_cell : DebugImage → Cell
image_cell (Image.Apple i) = choice 0 (apple_cell i)
image_cell (Image.Symbolic i) = choice 1 (symbolic_cell i)
image_cell (Image.Proguard i) = choice 2 (proguard_cell i)
image_cell (Image.Wasm i) = choice 3 (wasm_cell i)

-- the tag of an image
abbrev pub image_word : DebugImage → List ℕ
image_word (Image.Apple i) = codes "apple"
image_word (Image.Symbolic i) = codes "symbolic"
image_word (Image.Proguard i) = codes "proguard"
image_word (Image.Wasm i) = codes "wasm"
