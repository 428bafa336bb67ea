-- UUIDs as texts read back.
use Rattle.std.proofs.Common.{◌≡◌, ◌==◌, ◌&&◌, ◌+◌, ◌*◌, ◌<◌, ℕ, List, [], ◌∷◌, length, nat_lt, Bool, true, false, if◌then◌else◌, get_or, slice_index, take, drop, eqb-true, Option, Some, None, inl, refl, sym, subst, arith}
use Rattle.std.specs.Prelude.{All}
use Rattle.std.specs.List.{list_all}
use Rattle.std.proofs.lemmas.Bool.{and_parts}
use Rattle.std.proofs.lemmas.Bool.Decides.{nat_tests}
use Rattle.std.proofs.lemmas.List.Sums.{AllPass-from_list_all}
use Rattle.std.specs.Str.{IsAscii}
use Rattle.std.proofs.lemmas.Str.{IsUtf8-from_ascii}
use Rattle.std.proofs.lemmas.Option.{same_Some}
use Rattle.uuid.specs.Text.{lower, by_index, is_hex_digit, value_of, byte_of_digits, parsed, parsed_simple, parsed_hyphenated, parsed_braced, parsed_urn, digits_of, has_hyphens, has_urn_prefix, open_brace, close_brace}
use Rattle.uuid.proofs.TextLemmas.{by_index_length, by_index_at, simple_ascii, hyphenated_ascii}
use Rattle.uuid.proofs.RoundTrips.{parses_simple, parses_hyphenated}
use Rattle.sentry_tables.specs.Cell.{Cell, octets}
use Rattle.sentry_tables.specs.Kind.{draw}
use Rattle.sentry_tables.specs.Lawful.{ScalarLaws, RefusesNull, IsNormal, RuleLaws}
use Rattle.sentry_tables.specs.Spelling.{spelled}
use Rattle.sentry_tables.proofs.Spellings.{WordLaws, read_as_laws, spelled_laws, spelled_refuses_null}
use Rattle.sentry_text.proofs.ValueTexts.{value_laws}
use Rattle.sentry_identifiers.specs.Uuids.{IsUuid, IsRandomUuid, uuid_of, uuid_spelling, uuid_kind, hyphenated, simple}

-- ---- what a text is read as has sixteen bytes

abbrev pub Bytes : List ℕ → Type 0
Bytes b = (length b ≡ 16) × All (λ x. x < 256) b

abbrev pub Gives : Option (List ℕ) → Type 0
Gives o = (b : List ℕ) → o ≡ Some b → Bytes b

gives_none : Gives None
gives_none b e = absurd (cc)

gives_if : (c : Bool) (o p : Option (List ℕ)) → Gives o → Gives p → Gives (if c then o else p)
gives_if true o p g h = g
gives_if false o p g h = h

digit_below : (c : ℕ) → is_hex_digit c ≡ true → value_of c < 16
digit_below c h = grind (arith, nat_tests)

pair_below : (a b : ℕ) → a < 16 → b < 16 → a * 16 + b < 256
pair_below a b p q = omega arith

simple_bytes : (hex : List ℕ) → length hex ≡ 32 → list_all is_hex_digit hex ≡ true → Bytes (by_index 16 (byte_of_digits hex))
simple_bytes hex long digits =
    let digit : (k : ℕ) → k < 32 → value_of (slice_index hex k) < 16 = λ k h. digit_below (slice_index hex k) (AllPass-from_list_all is_hex_digit hex digits k 0 (omega arith)) in
    let size : length (by_index 16 (byte_of_digits hex)) ≡ 16 = by_index_length 16 (byte_of_digits hex) in
    let below : (k d : ℕ) → k < length (by_index 16 (byte_of_digits hex)) → get_or (by_index 16 (byte_of_digits hex)) k d < 256 = λ k d h.
    let within : k < 16 = omega arith in
    rw (by_index_at 16 (byte_of_digits hex) k d within) (pair_below (value_of (slice_index hex (2 * k))) (value_of (slice_index hex (2 * k + 1))) (digit (2 * k) (omega arith)) (digit (2 * k + 1) (omega arith))) in
    (size, below)

simple_by : (hex : List ℕ) (c : Bool) → ((length hex == 32) && list_all is_hex_digit hex) ≡ c → Gives (if c then Some (by_index 16 (byte_of_digits hex)) else None)
simple_by hex true is b e =
    let p = and_parts (length hex == 32) (list_all is_hex_digit hex) is in
    subst Bytes (same_Some (by_index 16 (byte_of_digits hex)) b e) (simple_bytes hex (eqb-true (length hex) 32 p.0) p.1)
simple_by hex false is b e = absurd (cc)

pub gives_simple : (hex : List ℕ) → Gives (parsed_simple hex)
gives_simple hex = simple_by hex ((length hex == 32) && list_all is_hex_digit hex) refl

pub gives_hyphenated : (s : List ℕ) → Gives (parsed_hyphenated s)
gives_hyphenated s = gives_if ((length s == 36) && has_hyphens s) (parsed_simple (digits_of s)) None (gives_simple (digits_of s)) gives_none

gives_braced : (s : List ℕ) → Gives (parsed_braced s)
gives_braced s =
    gives_if ((length s == 38) && (slice_index s 0 == open_brace) && (slice_index s 37 == close_brace)) (parsed_hyphenated (take 36 (drop 1 s))) None (gives_hyphenated (take 36 (drop 1 s))) gives_none

gives_urn : (s : List ℕ) → Gives (parsed_urn s)
gives_urn s = gives_if ((length s == 45) && has_urn_prefix s) (parsed_hyphenated (drop 9 s)) None (gives_hyphenated (drop 9 s)) gives_none

gives_bytes : (s : List ℕ) → Gives (parsed s)
gives_bytes s =
    gives_if (length s == 32) (parsed_simple s) _ (gives_simple s)
    (gives_if (length s == 36) (parsed_hyphenated s) _ (gives_hyphenated s)
    (gives_if (length s == 38) (parsed_braced s) _ (gives_braced s)
    (gives_if (length s == 45) (parsed_urn s) None (gives_urn s) gives_none)))

-- ---- the laws of a written form

of_octets : (c : Cell) → IsUuid c → (b : List ℕ) × Bytes b × (octets b ≡ c)
of_octets (octets b) h = (b, h, refl)
of_octets _ h = absurd h

-- of one whose texts parse to their bytes, and are ASCII
form_laws : (to_text : Cell → List ℕ) → ((b : List ℕ) → Bytes b → Some b ≡ parsed (to_text (octets b))) → ((b : List ℕ) → IsAscii (to_text (octets b)))
    → WordLaws uuid_of to_text IsUuid
form_laws to_text parses ascii =
    value_laws parsed (λ b. to_text (octets b)) Bytes octets to_text IsUuid (record {
      value = of_octets;
      stored = λ b h. h;
      text = λ b h. refl;
      back = λ b h. sym (parses b h);
      held = gives_bytes;
      utf8 = λ b h. IsUtf8-from_ascii (to_text (octets b)) (ascii b);
    })

-- ---- with hyphens, and without

hyphenated_form : WordLaws uuid_of hyphenated IsUuid
hyphenated_form = form_laws hyphenated (λ b h. parses_hyphenated lower b (inl refl) h.0 h.1) (λ b. hyphenated_ascii lower b (inl refl))

simple_form : WordLaws uuid_of simple IsUuid
simple_form = form_laws simple (λ b h. parses_simple lower b (inl refl) h.0 h.1) (λ b. simple_ascii lower b (inl refl))

pub hyphenated_laws : ScalarLaws (spelled (uuid_spelling hyphenated))
hyphenated_laws = spelled_laws (uuid_spelling hyphenated) (read_as_laws uuid_of hyphenated IsUuid hyphenated_form)

pub simple_laws : ScalarLaws (spelled (uuid_spelling simple))
simple_laws = spelled_laws (uuid_spelling simple) (read_as_laws uuid_of simple IsUuid simple_form)

pub hyphenated_back : (id : Cell) → IsUuid id → uuid_of (hyphenated id) ≡ Some id
hyphenated_back = hyphenated_form.reads

pub simple_back : (id : Cell) → IsUuid id → uuid_of (simple id) ≡ Some id
simple_back = simple_form.reads

-- ---- what may be drawn

uuid_refuses_null : (to_text : Cell → List ℕ) → RefusesNull (uuid_kind to_text)
uuid_refuses_null to_text = spelled_refuses_null (uuid_spelling to_text)

pub uuid_normal : (to_text : Cell → List ℕ) (id : Cell) → IsUuid id → IsNormal (uuid_kind to_text) id
uuid_normal to_text id h = (h, tt, tt, refl)

random_is_uuid : (id : Cell) → IsRandomUuid id → IsUuid id
random_is_uuid (octets b) h = h.0
random_is_uuid _ h = absurd h

-- zeros, but for the version, and the variant that random ones have
abbrev example : List ℕ
example = 0 ∷ 0 ∷ 0 ∷ 0 ∷ 0 ∷ 0 ∷ 64 ∷ 0 ∷ 128 ∷ 0 ∷ 0 ∷ 0 ∷ 0 ∷ 0 ∷ 0 ∷ 0 ∷ []

below : (x : ℕ) → nat_lt x 256 ≡ true → x < 256
below x e = grind (arith, nat_tests)

example_is_random : IsRandomUuid (octets example)
example_is_random = ((refl, λ k d within. below (get_or example k d) (AllPass-from_list_all (λ x. nat_lt x 256) example refl k d within)), refl)

pub drawn_uuid_laws : (to_text : Cell → List ℕ) → RuleLaws (draw IsRandomUuid) (uuid_kind to_text)
drawn_uuid_laws to_text = (uuid_refuses_null to_text, λ id h. uuid_normal to_text id (random_is_uuid id h), (octets example, example_is_random))
