-- Ids of projects and organizations are lawful as texts.
use Rattle.std.proofs.Common.{◌≡◌, ◌<◌, ◌^◌, ℕ, pos, negsuc, Some, refl, subst, arith, IsUtf8, decimal}
use Rattle.std.proofs.lemmas.Fmt.{IsAscii-decimal}
use Rattle.std.proofs.lemmas.Option.{same_Some}
use Rattle.std.proofs.lemmas.Str.{IsUtf8-from_ascii}
use Rattle.sentry_tables.specs.Cell.{Cell, text, whole}
use Rattle.sentry_tables.specs.Basic.{IsText, IsBelow}
use Rattle.sentry_tables.specs.Lawful.{IsNormal}
use Rattle.sentry_tables.specs.Cells.{natural_cell}
use Rattle.sentry_tables.specs.Spelling.{SpellingLaws, word_of}
use Rattle.sentry_tables.proofs.Spellings.{WordLaws, read_as_laws}
use Rattle.sentry_text.specs.Number.{number_of}
use Rattle.sentry_text.specs.ProjectTree.{project_spelling, project_kind, number_text, organization_spelling, organization_text_kind}
use Rattle.sentry_text.proofs.ValueTexts.{ValueLaws, value_laws}
use Rattle.sentry_text.proofs.NumberTexts.{number_of_iff, written_number}

-- ---- projects

text_utf8 : (c : Cell) → IsText c → IsUtf8 (word_of c)
text_utf8 (text s) h = h
text_utf8 _ h = absurd h

text_back : (c : Cell) → IsText c → Some (text (word_of c)) ≡ Some c
text_back (text s) h = refl
text_back _ h = absurd h

project_words : WordLaws (λ s. Some (text s)) word_of IsText
project_words = record {
  reads = text_back;
  stored = λ s c utf8 e. subst IsText (same_Some (text s) c e) utf8;
  utf8 = text_utf8;
}

pub project_laws : SpellingLaws project_spelling
project_laws = read_as_laws (λ s. Some (text s)) word_of IsText project_words

pub project_is_normal : (c : Cell) → IsText c → IsNormal project_kind c
project_is_normal (text s) h = (h, tt, tt, refl)
project_is_normal _ h = absurd h

-- ---- organizations

abbrev Fits : ℕ → Type 0
Fits n = n < 2 ^ 64

of_number : (c : Cell) → IsBelow (2 ^ 64) c → (n : ℕ) × Fits n × (natural_cell n ≡ c)
of_number (whole (pos n)) h = (n, h, refl)
of_number (whole (negsuc n)) h = absurd h
of_number _ h = absurd h

organization_values : ValueLaws (number_of 10) decimal Fits natural_cell number_text (IsBelow (2 ^ 64))
organization_values = record {
  value = of_number;
  stored = λ n small. small;
  text = λ n small. refl;
  back = λ n small. written_number 10 n (omega arith) (omega arith) (omega arith) small;
  held = λ s n e. ((number_of_iff 10 s n).0 e).small;
  utf8 = λ n small. IsUtf8-from_ascii (decimal n) (IsAscii-decimal n small);
}

pub organization_text_laws : SpellingLaws organization_spelling
organization_text_laws = read_as_laws _ number_text (IsBelow (2 ^ 64)) (value_laws (number_of 10) decimal Fits natural_cell number_text (IsBelow (2 ^ 64)) organization_values)

pub organization_is_normal : (n : ℕ) → n < 2 ^ 64 → IsNormal organization_text_kind (natural_cell n)
organization_is_normal n small = (small, tt, tt, refl)
