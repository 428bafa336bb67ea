-- The texts of identifiers are short.
use Rattle.std.proofs.Common.{◌≡◌, ◌<◌, ◌≤◌, ◌^◌, ◌==◌, ℕ, Bool, true, false, cond, List, [], ◌∷◌, length, arith, length-append}
use Rattle.std.specs.Fmt.{digits}
use Rattle.hex.specs.Hex.{encode_lower, lower_digits}
use Rattle.hex.proofs.HexLemmas.{length-encode_with}
use Rattle.uuid.specs.Text.{lower, hyphenated_text}
use Rattle.uuid.proofs.TextLemmas.{by_index_length}
use Rattle.sentry_tables.specs.Spelling.{FitsRoom}
use Rattle.sentry_identifiers.specs.DebugId.{appendix_text, debug_id_text}
use Rattle.sentry_text.proofs.Lengths.{hex_size}

pub hex_id_fits : (bytes : List ℕ) → length bytes ≤ 32 → FitsRoom (encode_lower bytes)
hex_id_fits bytes short = omega (arith, length-encode_with lower_digits bytes)

appendix_size : (n : ℕ) → n < 2 ^ 32 → length (appendix_text n) ≤ 9
appendix_size n small = go (n == 0)
  where
    go : (b : Bool) → length (cond b [] (45 ∷ digits 16 false n)) ≤ 9
    go true = omega arith
    go false = omega (arith, hex_size 8 n (omega arith) (omega arith))

pub debug_id_fits : (bytes : List ℕ) (n : ℕ) → n < 2 ^ 32 → FitsRoom (debug_id_text bytes n)
debug_id_fits bytes n small =
    let id : length (hyphenated_text lower bytes) ≡ 36 = by_index_length 36 _ in
    omega (arith, length-append (hyphenated_text lower bytes) (appendix_text n), appendix_size n small)
