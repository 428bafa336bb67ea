-- Which texts are ids in hex digits, and what they are read as.
use Rattle.std.proofs.Common.{◌≡◌, ℕ, suc, ◌+◌, ◌*◌, ◌/◌, ◌%◌, ◌<◌, ◌==◌, true, List, [], ◌∷◌, map, length, slice_index, Option, Some, None, Result, Ok, Err, refl, sym, ap, ◌∙◌, ◌↔◌, arith, cond, nat_lt, subst, IsAscii, IsUtf8}
use Rattle.std.specs.Char.{to_ascii_lowercase}
use Rattle.std.specs.Result.{result_ok, result_unwrap_or}
use Rattle.std.proofs.lemmas.Bool.{agree_below_at, eqb-true}
use Rattle.std.proofs.lemmas.Bool.Decides.{nat_tests}
use Rattle.std.proofs.lemmas.Str.{IsUtf8-from_ascii}
use Rattle.std.proofs.lemmas.Str.Ascii.{IsAscii-from_reads}
use Rattle.hex.specs.declared.error.FromHexError.{FromHexError}
use Rattle.hex.specs.Hex.{IsBytes, decode_of, decode_pairs, decode_sized, digit_or_error, hex_digit_value, encode_lower, encode_with, lower_digits, pair_value, value_at, ◌>>=◌}
use Rattle.hex.proofs.HexLemmas.{IsAscii-encode_with, IsDigits-lower_digits, length-encode_with, decode_of-even, decode_of-ok, decode_sized-ok, decode_sized-twice}
use Rattle.hex.proofs.Pairs.{cons_byte, decode_pairs-ok_pair}
use Rattle.sentry_identifiers.specs.HexId.{IsHexId, hex_id_of}

-- a digit's value is that of its lower case
lower_value : (c : ℕ) → hex_digit_value (to_ascii_lowercase c) ≡ hex_digit_value c
lower_value c = grind (arith, nat_tests)

pub digit_of : (v : ℕ) → v < 16 → slice_index lower_digits v ≡ cond (nat_lt v 10) (48 + v) (87 + v)
digit_of v small =
    eqb-true _ _ (agree_below_at (λ k. slice_index lower_digits k == cond (nat_lt k 10) (48 + k) (87 + k)) (λ k. true) 16 v refl small)

small_digit : (v : ℕ) → v < 16 → slice_index lower_digits v < 128
small_digit v small = rw (digit_of v small) (grind (arith, nat_tests))

-- hex digits are ASCII
pub digits_utf8 : (bytes text : List ℕ) → text ≡ encode_lower bytes → IsUtf8 text
digits_utf8 bytes text is =
    let digits : IsAscii lower_digits = IsAscii-from_reads lower_digits 16 (omega arith) small_digit in
    subst IsUtf8 (sym is) (IsUtf8-from_ascii (encode_lower bytes) (IsAscii-encode_with lower_digits bytes digits))

-- a digit in lower case is the digit of its value
value_digit : (c v : ℕ) → hex_digit_value c ≡ Some v → (v < 16) × (to_ascii_lowercase c ≡ slice_index lower_digits v)
value_digit c v e =
    let small : v < 16 = grind (arith, nat_tests) in
    let lower : to_ascii_lowercase c ≡ cond (nat_lt v 10) (48 + v) (87 + v) = grind (arith, nat_tests) in
    (small, lower ∙ sym (digit_of v small))

digit_value_of : (c v : ℕ) → v < 16 → to_ascii_lowercase c ≡ slice_index lower_digits v → hex_digit_value c ≡ Some v
digit_value_of c v small e = sym (lower_value c) ∙ ap hex_digit_value e ∙ IsDigits-lower_digits v small

-- ---- pairs of digits

bind_ok : {A B : Type 0} (r : Result A FromHexError) (f : A → Result B FromHexError) (y : B) → (r >>= f) ≡ Ok y → (x : A) × (r ≡ Ok x) × (f x ≡ Ok y)
bind_ok (Ok x) f y h = (x, refl, h)
bind_ok (Err e) f y h = absurd cc

digit_read : (c i v : ℕ) (o : Option ℕ) → digit_or_error c i o ≡ Ok v → o ≡ Some v
digit_read c i v (Some w) h = ap Some (ap (λ (r : Result ℕ FromHexError). result_unwrap_or r 0) h)
digit_read c i v None h = absurd cc

pair_digits : (a b i byte : ℕ) → pair_value a b i ≡ Ok byte → (byte < 256) × (to_ascii_lowercase a ≡ slice_index lower_digits (byte / 16)) × (to_ascii_lowercase b ≡ slice_index lower_digits (byte % 16))
pair_digits a b i byte h =
    let first = bind_ok (value_at a i) _ byte h in
    let second = bind_ok (value_at b (i + 1)) _ byte first.2 in
    let whole : first.0 * 16 + second.0 ≡ byte = ap (λ (r : Result ℕ FromHexError). result_unwrap_or r 0) second.2 in
    let high = value_digit a first.0 (digit_read a i first.0 (hex_digit_value a) first.1) in
    let low = value_digit b second.0 (digit_read b (i + 1) second.0 (hex_digit_value b) second.1) in
    let high_is : first.0 ≡ byte / 16 = omega (arith, whole, low.0) in
    let low_is : second.0 ≡ byte % 16 = omega (arith, whole, low.0) in
    (omega (arith, whole, high.0, low.0), high.1 ∙ ap (slice_index lower_digits) high_is, low.1 ∙ ap (slice_index lower_digits) low_is)

pair_read : (a b i byte : ℕ) → byte < 256 → to_ascii_lowercase a ≡ slice_index lower_digits (byte / 16) → to_ascii_lowercase b ≡ slice_index lower_digits (byte % 16) → pair_value a b i ≡ Ok byte
pair_read a b i byte fits high low =
    let first : value_at a i ≡ Ok (byte / 16) = ap (digit_or_error a i) (digit_value_of a (byte / 16) (omega arith) high) in
    let second : value_at b (i + 1) ≡ Ok (byte % 16) = ap (digit_or_error b (i + 1)) (digit_value_of b (byte % 16) (omega arith) low) in
    let pair : pair_value a b i ≡ Ok (byte / 16 * 16 + byte % 16) = rw (first, second) refl in
    let whole : byte / 16 * 16 + byte % 16 ≡ byte = omega arith in
    pair ∙ ap (λ (n : ℕ). Ok n) whole

-- ---- texts

pairs_digits : (i : ℕ) (text bytes : List ℕ) → decode_pairs i text ≡ Ok bytes → map to_ascii_lowercase text ≡ encode_lower bytes
unfolding decode_pairs encode_with
pairs_digits i [] bytes h =
    let e : [] ≡ bytes = ap (λ (r : Result (List ℕ) FromHexError). result_unwrap_or r []) h in
    ap encode_lower e
pairs_digits i (a ∷ []) bytes h = absurd cc
pairs_digits i (a ∷ b ∷ rest) bytes h =
    let byte = bind_ok (pair_value a b i) _ bytes h in
    let others = bind_ok (decode_pairs (i + 2) rest) _ bytes byte.2 in
    let e : byte.0 ∷ others.0 ≡ bytes = ap (λ (r : Result (List ℕ) FromHexError). result_unwrap_or r []) others.2 in
    let digits = pair_digits a b i byte.0 byte.1 in
    let high = digits.1 in
    let low = digits.2 in
    let tail = pairs_digits (i + 2) rest others.0 others.1 in
    let whole : to_ascii_lowercase a ∷ to_ascii_lowercase b ∷ map to_ascii_lowercase rest ≡ encode_lower (byte.0 ∷ others.0) = cc in
    whole ∙ ap encode_lower e

pairs_read : (i : ℕ) (text bytes : List ℕ) → IsBytes bytes → map to_ascii_lowercase text ≡ encode_lower bytes → decode_pairs i text ≡ Ok bytes
unfolding decode_pairs encode_with
pairs_read i [] [] fits e = refl
pairs_read i [] (byte ∷ bytes) fits e = absurd cc
pairs_read i (a ∷ []) [] fits e = absurd cc
pairs_read i (a ∷ []) (byte ∷ bytes) fits e = absurd cc
pairs_read i (a ∷ b ∷ rest) [] fits e = absurd cc
pairs_read i (a ∷ b ∷ rest) (byte ∷ bytes) fits e =
    let high : to_ascii_lowercase a ≡ slice_index lower_digits (byte / 16) = cc in
    let low : to_ascii_lowercase b ≡ slice_index lower_digits (byte % 16) = cc in
    let tail : map to_ascii_lowercase rest ≡ encode_lower bytes = cc in
    decode_pairs-ok_pair i a b byte rest (pair_read a b i byte (fits 0) high low)
    ∙ ap (cons_byte byte) (pairs_read (i + 2) rest bytes (λ k. fits (suc k)) tail)

-- ---- ids

length_lower : (text : List ℕ) → length (map to_ascii_lowercase text) ≡ length text
length_lower [] = refl
length_lower (c ∷ cs) = let e = length_lower cs in omega (arith, e)

some_ok : {A : Type 0} (r : Result A FromHexError) (x : A) → result_ok r ≡ Some x → r ≡ Ok x
some_ok (Ok y) x h = cc
some_ok (Err e) x h = absurd cc

id_parts : (n : ℕ) (text bytes : List ℕ) → decode_sized text n ≡ Ok bytes → IsHexId n text bytes
id_parts n text bytes h =
    let size = decode_sized-ok text n bytes h in
    let read : decode_of text ≡ Ok bytes = sym (decode_sized-twice text n size) ∙ h in
    let ok = decode_of-ok text bytes read in
    record {
      size = omega (arith, size, ok.2);
      are_bytes = ok.3;
      digits = pairs_digits 0 text bytes (sym (decode_of-even text ok.0) ∙ read);
    }

id_read : (n : ℕ) (text bytes : List ℕ) → IsHexId n text bytes → decode_sized text n ≡ Ok bytes
id_read n text bytes h =
    let long : length text ≡ 2 * n = omega (arith, h.size, length_lower text, ap length h.digits, length-encode_with lower_digits bytes) in
    decode_sized-twice text n long ∙ decode_of-even text (omega arith) ∙ pairs_read 0 text bytes h.are_bytes h.digits

pub hex_id_of_iff : (n : ℕ) (text bytes : List ℕ) → hex_id_of n text ≡ Some bytes ↔ IsHexId n text bytes
unfolding hex_id_of
hex_id_of_iff n text bytes =
    (λ e. id_parts n text bytes (some_ok (decode_sized text n) bytes e), λ h. ap result_ok (id_read n text bytes h))

-- a digit in lower case stays as it is
kept : (v : ℕ) → v < 16 → to_ascii_lowercase (slice_index lower_digits v) ≡ slice_index lower_digits v
kept v small = (value_digit (slice_index lower_digits v) v (IsDigits-lower_digits v small)).1

lower_kept : (bytes : List ℕ) → IsBytes bytes → map to_ascii_lowercase (encode_lower bytes) ≡ encode_lower bytes
unfolding encode_with
lower_kept [] fits = refl
lower_kept (byte ∷ bytes) fits =
    let one = fits 0 in
    let high = kept (byte / 16) (omega arith) in
    let low = kept (byte % 16) (omega arith) in
    let tail = lower_kept bytes (λ k. fits (suc k)) in
    cc

pub written_id : (n : ℕ) (bytes : List ℕ) → length bytes ≡ n → IsBytes bytes → hex_id_of n (encode_lower bytes) ≡ Some bytes
written_id n bytes size fits = (hex_id_of_iff n (encode_lower bytes) bytes).1 (record { size = size; are_bytes = fits; digits = lower_kept bytes fits })
