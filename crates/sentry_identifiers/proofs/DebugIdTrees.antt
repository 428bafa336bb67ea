-- The spelling of debug identifiers is lawful.
use Rattle.std.proofs.Common.{◌≡◌, ◌⊎◌, ◌==◌, ◌<◌, ◌^◌, ℕ, List, [], ◌∷◌, length, false, Some, inl, inr, refl, sym, subst, arith, All, IsUtf8, lit<}
use Rattle.std.specs.Fmt.{digits}
use Rattle.std.proofs.lemmas.Bool.{cases_eq, cond-true, cond-false, eq-eqb, ne_eqb}
use Rattle.std.proofs.lemmas.Fmt.{digits_is_IsNumeral}
use Rattle.std.proofs.lemmas.Str.{IsUtf8-append, IsUtf8-from_ascii, IsUtf8-nil}
use Rattle.uuid.specs.Text.{lower, parsed_simple, parsed_hyphenated, hyphenated_text}
use Rattle.uuid.proofs.TextLemmas.{hyphenated_ascii}
use Rattle.sentry_tables.specs.Cell.{Cell, octets, choice}
use Rattle.sentry_tables.specs.Lawful.{IsLawful, IsNormal, RefusesNull}
use Rattle.sentry_tables.specs.Laws.{HasLaws}
use Rattle.sentry_tables.specs.Spelling.{SpellingLaws}
use Rattle.sentry_tables.proofs.Spellings.{read_as_laws, spelled_laws, spelled_has_laws, spelled_refuses_null}
use Rattle.sentry_identifiers.specs.DebugId.{IsAppendix, debug_id_of, debug_id_text, appendix_text}
use Rattle.sentry_identifiers.specs.DebugIdTree.{debug_cell, IsDebugCell, debug_text, debug_spelling, debug_kind}
use Rattle.sentry_identifiers.proofs.UuidLaws.{Bytes, gives_simple, gives_hyphenated}
use Rattle.sentry_identifiers.proofs.DebugIds.{debug_id_of_iff, written_debug_id, eight_digits}
use Rattle.sentry_text.proofs.ValueTexts.{ValueLaws, value_laws}
use Rattle.sentry_text.proofs.Bounds.{small_cons, small_utf8, digits_small}

-- ---- what is read has sixteen bytes and 32 bits

id_bytes : (s bytes : List ℕ) → (parsed_simple s ≡ Some bytes) ⊎ (parsed_hyphenated s ≡ Some bytes) → Bytes bytes
id_bytes s bytes (inl e) = gives_simple s bytes e
id_bytes s bytes (inr e) = gives_hyphenated s bytes e

tail_bits : (s : List ℕ) (n : ℕ) → IsAppendix s n → n < 2 ^ 32
tail_bits s n (inl (none, is)) = omega (arith, is)
tail_bits s n (inr (rest, e, digits, short, is)) = let small = eight_digits rest (digits, short) in omega (arith, small, is)

-- ---- texts are ASCII

tail_utf8 : (n : ℕ) → n < 2 ^ 32 → IsUtf8 (appendix_text n)
tail_utf8 n small =
    elim (cases_eq n 0) [
      | inl none ↦ subst IsUtf8 (sym (cond-true (n == 0) [] (45 ∷ digits 16 false n) (eq-eqb n 0 none))) IsUtf8-nil
      | inr some ↦
          let numeral = digits_is_IsNumeral 16 false (omega arith) (omega arith) n (omega arith) in
          let small = small_cons 128 45 (digits 16 false n) (lit< tt) (digits_small (digits 16 false n) numeral.0.1) in
          subst IsUtf8 (sym (cond-false (n == 0) [] (45 ∷ digits 16 false n) (ne_eqb n 0 some))) (small_utf8 (45 ∷ digits 16 false n) small)
    ]

-- ---- the laws

abbrev Parts : Type 0
Parts = List ℕ × ℕ

abbrev IsHeld : Parts → Type 0
IsHeld p = (p.1 < 2 ^ 32) × (length p.0 ≡ 16) × All (λ b. b < 256) p.0

of_parts : (c : Cell) → IsDebugCell c → (p : Parts) × IsHeld p × (debug_cell p ≡ c)
of_parts (choice n (octets bytes)) h = ((bytes, n), h, refl)
of_parts _ h = absurd h

read_parts : (s : List ℕ) (p : Parts) → debug_id_of s ≡ Some p → IsHeld p
read_parts s p e =
    let is = (debug_id_of_iff s p.0 p.1).0 e in
    let bytes = id_bytes is.id p.0 is.is_id in
    (tail_bits is.tail p.1 is.is_tail, bytes.0, bytes.1)

abbrev to_text : Parts → List ℕ
to_text p = debug_id_text p.0 p.1

debug_values : ValueLaws debug_id_of to_text IsHeld debug_cell debug_text IsDebugCell
debug_values = record {
  value = of_parts;
  stored = λ p h. h;
  text = λ p h. refl;
  back = λ p h. written_debug_id p.0 p.1 h.1 h.2 h.0;
  held = read_parts;
  utf8 = λ p h. IsUtf8-append (hyphenated_text lower p.0) (appendix_text p.1) (IsUtf8-from_ascii (hyphenated_text lower p.0) (hyphenated_ascii lower p.0 (inl refl))) (tail_utf8 p.1 h.0);
}

pub debug_laws : SpellingLaws debug_spelling
debug_laws = read_as_laws _ debug_text IsDebugCell (value_laws debug_id_of to_text IsHeld debug_cell debug_text IsDebugCell debug_values)

pub debug_lawful : IsLawful debug_kind
debug_lawful = spelled_laws debug_spelling debug_laws

pub debug_has_laws : HasLaws debug_kind
debug_has_laws = spelled_has_laws debug_spelling debug_laws

pub debug_refuses_null : RefusesNull debug_kind
debug_refuses_null = spelled_refuses_null debug_spelling

pub debug_normal : (c : Cell) → IsDebugCell c → IsNormal debug_kind c
debug_normal c h = (h, tt, tt, refl)
