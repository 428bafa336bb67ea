-- Debug identifiers.
use Rattle.std.specs.Prelude.{◌≡◌, ◌⊎◌, ◌≤◌, ◌==◌, ◌&&◌, ℕ, false, List, [], ◌∷◌, ◌++◌, codes, nat_le, length, take, drop, slice_index, Option, Some, None, option_and_then, option_map, if◌then◌else◌}
use Rattle.std.specs.Fmt.{digits}
use Rattle.std.specs.Str.Parse.{IsNumeral, digits_value}
use Rattle.uuid.specs.Text.{lower, parsed, parsed_simple, parsed_hyphenated, hyphenated_text}
use Rattle.sentry_text.specs.Number.{is_numeral}
use Rattle.sentry_identifiers.specs.declared.debug_id.DebugId.{DebugId}

-- nothing, which is 0, or a hyphen and one to eight digits in base 16
abbrev pub IsAppendix : List ℕ → ℕ → Type 0
IsAppendix text n =
    ((text ≡ []) × (n ≡ 0))
    ⊎ ((rest : List ℕ) × (text ≡ codes "-" ++ rest) × IsNumeral 16 rest × (length rest ≤ 8) × (n ≡ digits_value 16 rest))

-- the text is that of a UUID, as 32 digits or with hyphens, in either case, and an appendix
pub record IsDebugId (text bytes : List ℕ) (n : ℕ) : Type 0 where
  pub id : List ℕ
  pub tail : List ℕ
  pub whole : text ≡ id ++ tail
  pub is_id : (parsed_simple id ≡ Some bytes) ⊎ (parsed_hyphenated id ≡ Some bytes)
  pub is_tail : IsAppendix tail n

-- how many characters the UUID has: a hyphen after eight digits says that it has hyphens
abbrev pub id_size : List ℕ → ℕ
id_size text = if slice_index text 8 == 45 then 36 else 32

-- what the text after the UUID is read as
unfoldable pub appendix_of : List ℕ → Option ℕ
appendix_of [] = Some 0
appendix_of (c ∷ rest) =
    if (c == 45) && (is_numeral 16 rest && nat_le (length rest) 8) then Some (digits_value 16 rest) else None

-- what the text is read as: the bytes of the UUID, and the appendix
unfoldable pub debug_id_of : List ℕ → Option (List ℕ × ℕ)
debug_id_of text =
    option_and_then (λ bytes. option_map (λ n. (bytes, n)) (appendix_of (drop (id_size text) text)))
    (parsed (take (id_size text) text))

-- the written appendix: nothing for 0
abbrev pub appendix_text : ℕ → List ℕ
appendix_text n = if n == 0 then [] else codes "-" ++ digits 16 false n

-- the written text: the UUID with hyphens, in lower case, and the appendix
abbrev pub debug_id_text : List ℕ → ℕ → List ℕ
debug_id_text bytes n = hyphenated_text lower bytes ++ appendix_text n

-- the two parts of a debug identifier
abbrev pub debug_parts : DebugId → List ℕ × ℕ
debug_parts id = (id.uuid, id.appendix)
