-- Addresses and register values as texts.
use Rattle.std.specs.Prelude.{◌≡◌, ◌⊎◌, ℕ, List, ◌++◌, ◌==◌, ◌&&◌, ◌||◌, Bool, codes, drop, slice_index, Option, if◌then◌else◌}
use Rattle.std.specs.Fmt.{digits}
use Rattle.std.specs.Prelude.{false}
use Rattle.sentry_text.specs.Number.{IsNumber, number_of}

-- `0x` or `0X` and a number in base 16, or else a decimal number; a plus may stand before the digits
abbrev pub IsAddress : List ℕ → ℕ → Type 0
IsAddress text n =
    ((rest : List ℕ) × ((text ≡ codes "0x" ++ rest) ⊎ (text ≡ codes "0X" ++ rest)) × IsNumber 16 rest n)
    ⊎ IsNumber 10 text n

-- the text begins with `0x` or `0X`
abbrev pub has_hex_front : List ℕ → Bool
has_hex_front text = (slice_index text 0 == 48) && ((slice_index text 1 == 120) || (slice_index text 1 == 88))

-- what the text is read as
unfoldable pub address_of : List ℕ → Option ℕ
address_of text = if has_hex_front text then number_of 16 (drop 2 text) else number_of 10 text

-- the written text: `0x` and the digits in base 16, in lower case
abbrev pub address_text : ℕ → List ℕ
address_text n = codes "0x" ++ digits 16 false n
