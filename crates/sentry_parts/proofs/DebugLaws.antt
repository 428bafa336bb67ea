-- The tables of debug images, and of what debuggers need, are lawful.
use Rattle.std.proofs.Common.{refl, arith}
use Rattle.sentry_tables.proofs.Basic.{text_laws, u32_laws, u64_laws}
use Rattle.sentry_tables.proofs.ByRows.{laws_by_rows, empty_list_stands}
use Rattle.sentry_tables.proofs.Laws.{has_laws}
use Rattle.sentry_tables.specs.Fields.{rows_of}
use Rattle.sentry_tables.specs.Kind.{default}
use Rattle.sentry_tables.specs.Laws.{HasLaws}
use Rattle.sentry_tables.specs.Lawful.{RuleLaws, IsLawful}
use Rattle.sentry_tables.specs.Cells.{natural_cell}
use Rattle.sentry_text.specs.AddressTree.{address_kind}
use Rattle.sentry_text.proofs.AddressTrees.{address_laws, address_refuses_null, address_is_normal}
use Rattle.sentry_identifiers.proofs.CodeIdTrees.{code_lawful}
use Rattle.sentry_identifiers.proofs.DebugIdTrees.{debug_lawful}
use Rattle.sentry_identifiers.proofs.UuidLaws.{hyphenated_laws}
use Rattle.sentry_parts.specs.DebugImages.{apple_fields, apple_kind, symbolic_fields, symbolic_kind, proguard_fields, proguard_kind, wasm_fields, wasm_kind, image_kind}
use Rattle.sentry_parts.specs.Debugging.{empty_meta, debug_meta_fields, debug_meta_kind, system_fields, system_kind}

-- ---- scalars and defaults

zero_stands : RuleLaws (default (natural_cell 0)) address_kind
zero_stands = (address_refuses_null, address_is_normal 0 (omega arith))

-- ---- images

apple_lawful : IsLawful apple_kind
unfolding apple_fields
apple_lawful = laws_by_rows (rows_of apple_fields) refl (search (text_laws, u32_laws, u64_laws, address_laws, zero_stands, hyphenated_laws))

symbolic_lawful : IsLawful symbolic_kind
unfolding symbolic_fields
symbolic_lawful = laws_by_rows (rows_of symbolic_fields) refl (search (text_laws, u64_laws, address_laws, zero_stands, code_lawful, debug_lawful))

proguard_lawful : IsLawful proguard_kind
unfolding proguard_fields
proguard_lawful = laws_by_rows (rows_of proguard_fields) refl (search hyphenated_laws)

wasm_lawful : IsLawful wasm_kind
unfolding wasm_fields
wasm_lawful = laws_by_rows (rows_of wasm_fields) refl (search (text_laws, hyphenated_laws))

image_lawful : IsLawful image_kind
unfolding apple_fields symbolic_fields proguard_fields wasm_fields
image_lawful = (refl, refl, tt, apple_lawful, (refl, refl, tt, symbolic_lawful, (refl, refl, tt, proguard_lawful, (refl, refl, tt, wasm_lawful, tt, refl), refl), refl), refl)

-- ---- what debuggers need

system_lawful : IsLawful system_kind
unfolding system_fields
system_lawful = laws_by_rows (rows_of system_fields) refl (search (text_laws, u32_laws))

pub debug_meta_lawful : IsLawful debug_meta_kind
unfolding debug_meta_fields
debug_meta_lawful = laws_by_rows (rows_of debug_meta_fields) refl (search (image_lawful, system_lawful, empty_list_stands))

pub apple_laws : HasLaws apple_kind
apple_laws = has_laws apple_kind apple_lawful

pub symbolic_laws : HasLaws symbolic_kind
symbolic_laws = has_laws symbolic_kind symbolic_lawful

pub proguard_laws : HasLaws proguard_kind
proguard_laws = has_laws proguard_kind proguard_lawful

pub wasm_laws : HasLaws wasm_kind
wasm_laws = has_laws wasm_kind wasm_lawful

pub image_laws : HasLaws image_kind
image_laws = has_laws image_kind image_lawful

pub system_laws : HasLaws system_kind
system_laws = has_laws system_kind system_lawful

pub debug_meta_laws : HasLaws debug_meta_kind
debug_meta_laws = has_laws debug_meta_kind debug_meta_lawful

-- a row of what debuggers need may leave out what is empty
pub debug_meta_stands : RuleLaws (default empty_meta) debug_meta_kind
unfolding debug_meta_fields
debug_meta_stands = ((λ now c h. absurd cc), (((tt, (tt, tt)), refl), ((tt, (tt, tt)), (tt, refl)), ((tt, (tt, tt)), tt), refl))
