-- Ids of spans and traces as texts of trees are lawful.
use Rattle.std.proofs.Common.{◌≡◌, ◌/◌, ◌%◌, ◌<◌, ℕ, zero, suc, List, [], ◌∷◌, length, slice_index, replicate, Some, option_map, Result, Ok, Err, refl, sym, ap, ◌∙◌, arith}
use Rattle.std.proofs.lemmas.Option.{none-some}
use Rattle.std.specs.Result.{result_ok}
use Rattle.std.specs.Str.{IsAscii}
use Rattle.std.proofs.lemmas.Str.{IsUtf8-from_ascii}
use Rattle.std.proofs.lemmas.Bool.Decides.{nat_tests}
use Rattle.hex.specs.declared.error.FromHexError.{FromHexError}
use Rattle.hex.specs.Hex.{IsBytes, decode_sized, encode_lower, encode_with, lower_digits}
use Rattle.sentry_tables.specs.Cell.{Cell, octets}
use Rattle.sentry_tables.specs.Kind.{draw}
use Rattle.sentry_tables.specs.Lawful.{IsNormal, RuleLaws}
use Rattle.sentry_tables.specs.Spelling.{SpellingLaws, spelled_kind}
use Rattle.sentry_tables.proofs.Spellings.{read_as_laws, spelled_refuses_null}
use Rattle.sentry_identifiers.specs.HexId.{hex_id_of}
use Rattle.sentry_identifiers.specs.HexIdTree.{IsOctets, hex_text, hex_id_spelling}
use Rattle.sentry_text.proofs.ValueTexts.{ValueLaws, value_laws}
use Rattle.sentry_identifiers.proofs.HexIds.{digit_of, hex_id_of_iff, written_id}

-- ---- the written text is ASCII

digit_ascii : (v : ℕ) → v < 16 → slice_index lower_digits v < 128
digit_ascii v small = let e = digit_of v small in grind (arith, nat_tests)

digits_ascii : (bytes : List ℕ) → IsBytes bytes → IsAscii (encode_lower bytes)
unfolding encode_with
digits_ascii [] fits i = omega arith
digits_ascii (b ∷ bs) fits zero = digit_ascii (b / 16) (let one = fits 0 in omega (arith, one))
digits_ascii (b ∷ bs) fits (suc zero) = digit_ascii (b % 16) (omega arith)
digits_ascii (b ∷ bs) fits (suc (suc i)) = digits_ascii bs (λ k. fits (suc k)) i

-- ---- what a text spells

pub id_spelled : (n : ℕ) (text bytes : List ℕ) → Ok bytes ≡ decode_sized text n → option_map octets (hex_id_of n text) ≡ Some (octets bytes)
unfolding hex_id_of
id_spelled n text bytes e = sym (ap (λ (r : Result (List ℕ) FromHexError). option_map octets (result_ok r)) e)

pub none_spelled : (n : ℕ) (text : List ℕ) (error : FromHexError) → Err error ≡ decode_sized text n → (c : Cell) → option_map octets (hex_id_of n text) ≡ Some c → ⊥
unfolding hex_id_of
none_spelled n text error e c h = none-some c (ap (λ (r : Result (List ℕ) FromHexError). option_map octets (result_ok r)) e ∙ h)

-- ---- the laws

module _ (n : ℕ) where
  abbrev AreBytes : List ℕ → Type 0
  AreBytes bytes = (length bytes ≡ n) × IsBytes bytes

  of_octets : (c : Cell) → IsOctets n c → (bytes : List ℕ) × AreBytes bytes × (octets bytes ≡ c)
  of_octets (octets bytes) h = (bytes, h, refl)
  of_octets _ h = absurd h

  id_values : ValueLaws (hex_id_of n) encode_lower AreBytes octets hex_text (IsOctets n)
  id_values = record {
    value = of_octets;
    stored = λ bytes h. h;
    text = λ bytes h. refl;
    back = λ bytes h. written_id n bytes h.0 h.1;
    held = λ s bytes e. let id = (hex_id_of_iff n s bytes).0 e in (id.size, id.are_bytes);
    utf8 = λ bytes h. IsUtf8-from_ascii (encode_lower bytes) (digits_ascii bytes h.1);
  }

  pub hex_id_laws : SpellingLaws (hex_id_spelling n)
  hex_id_laws = read_as_laws _ hex_text (IsOctets n) (value_laws (hex_id_of n) encode_lower AreBytes octets hex_text (IsOctets n) id_values)

  -- ---- what may be drawn

  id_is_normal : (c : Cell) → IsOctets n c → IsNormal (spelled_kind (hex_id_spelling n)) c
  id_is_normal c h = (h, tt, tt, refl)

  zeros_are_bytes : (k : ℕ) → IsBytes (replicate k 0)
  zeros_are_bytes zero i = omega arith
  zeros_are_bytes (suc k) zero = omega arith
  zeros_are_bytes (suc k) (suc i) = zeros_are_bytes k i

  zeros_long : (k : ℕ) → length {A = ℕ} (replicate k 0) ≡ k
  zeros_long zero = refl
  zeros_long (suc k) = ap suc (zeros_long k)

  -- any n bytes may be drawn
  pub drawn_id_laws : RuleLaws (draw (IsOctets n)) (spelled_kind (hex_id_spelling n))
  drawn_id_laws = (spelled_refuses_null (hex_id_spelling n), id_is_normal, (octets (replicate n 0), (zeros_long n, zeros_are_bytes n)))
