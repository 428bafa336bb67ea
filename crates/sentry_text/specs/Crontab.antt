-- Schedules: five parts, each a name or a list of items.
use Rattle.std.specs.Prelude.{◌≡◌, ℕ, ◌<◌, ◌≤◌, ◌⊎◌, ◌==◌, List, [], ◌∷◌, ◌++◌, map, codes, length}
use Rattle.std.specs.Char.{to_ascii_lowercase, is_whitespace, is_not_whitespace}
use Rattle.std.specs.Str.{NoCharPasses, EmptyOrStartsWithPassing}
use Rattle.std.specs.List.{slice_split, AllByRecursion}
use Rattle.std.specs.String.{string_bytes}
use Rattle.sentry_text.specs.Number.{IsNumber}
use Rattle.sentry_text.specs.declared.crontab.CrontabParseError.{CrontabParseError}
use Rattle.sentry_text.specs.declared.crontab.field.Field.{Field}
use Rattle.sentry_text.specs.declared.crontab.field.Field.TheVariants.{Minute, Hour, DayOfMonth, Month, DayOfWeek}

-- text is white space, the word, and rest, which is empty or begins with white space
pub record StartsWithWord (text word rest : List ℕ) : Type 0 where
  pub gap : List ℕ
  pub split : text ≡ gap ++ (word ++ rest)
  pub nonempty : 0 < length word
  pub gap_is_blank : NoCharPasses is_not_whitespace gap
  pub word_has_no_space : NoCharPasses is_whitespace word
  pub rest_starts_blank : (more : List ℕ) × EmptyOrStartsWithPassing is_whitespace rest more

-- these are the words of the text
abbrev pub SplitsInto : List ℕ → List (List ℕ) → Type 0
SplitsInto text [] = NoCharPasses is_not_whitespace text
SplitsInto text (word ∷ words) = (rest : List ℕ) × StartsWithWord text word rest × SplitsInto rest words

-- the least and the greatest number of a field
abbrev pub low_of : Field → ℕ
low_of Minute = 0
low_of Hour = 0
low_of DayOfMonth = 1
low_of Month = 1
low_of DayOfWeek = 0

abbrev pub high_of : Field → ℕ
high_of Minute = 59
high_of Hour = 23
high_of DayOfMonth = 31
high_of Month = 12
high_of DayOfWeek = 6

-- the names of a field
abbrev pub names_of : Field → List (List ℕ)
names_of Minute = []
names_of Hour = []
names_of DayOfMonth = []
names_of Month =
    codes "jan" ∷ codes "feb" ∷ codes "mar" ∷ codes "apr" ∷ codes "may" ∷ codes "jun"
    ∷ codes "jul" ∷ codes "aug" ∷ codes "sep" ∷ codes "oct" ∷ codes "nov" ∷ codes "dec" ∷ []
names_of DayOfWeek =
    codes "sun" ∷ codes "mon" ∷ codes "tue" ∷ codes "wed" ∷ codes "thu" ∷ codes "fri" ∷ codes "sat" ∷ []

-- the text is one of the names, in any case
abbrev pub IsOneOf : List ℕ → List (List ℕ) → Type 0
IsOneOf text [] = ⊥
IsOneOf text (name ∷ names) = (map to_ascii_lowercase text ≡ map to_ascii_lowercase name) ⊎ IsOneOf text names

-- a range's first and last number, with a minus between them
pub record AreBounds (text : List ℕ) (m n : ℕ) : Type 0 where
  pub first : List ℕ
  pub last : List ℕ
  pub whole : text ≡ first ++ 45 ∷ last
  pub from : IsNumber 10 first m
  pub to : IsNumber 10 last n

-- the field has the numbers from m to n
abbrev pub IsWithin : Field → ℕ → ℕ → Type 0
IsWithin field m n = (low_of field ≤ m) × (m ≤ n) × (n ≤ high_of field)

-- `*`, or the bounds of a range within the field
abbrev pub IsRange : Field → List ℕ → Type 0
IsRange field text = (text ≡ 42 ∷ []) ⊎ ((m : ℕ) × (n : ℕ) × AreBounds text m n × IsWithin field m n)

-- a number above 0
abbrev pub IsStep : List ℕ → Type 0
IsStep text = (n : ℕ) × IsNumber 10 text n × (0 < n)

-- a range, a slash and a step
pub record HasStep (field : Field) (text : List ℕ) : Type 0 where
  pub range : List ℕ
  pub step : List ℕ
  pub whole : text ≡ range ++ 47 ∷ step
  pub is_range : IsRange field range
  pub is_step : IsStep step

-- a range, which a slash and a step may follow
abbrev pub IsSteppedRange : Field → List ℕ → Type 0
IsSteppedRange field text = IsRange field text ⊎ HasStep field text

-- a number of the field, or a range with or without a step
abbrev pub IsItem : Field → List ℕ → Type 0
IsItem field text = ((n : ℕ) × IsNumber 10 text n × IsWithin field n n) ⊎ IsSteppedRange field text

-- items with commas between them
abbrev pub AreItems : Field → List ℕ → Type 0
AreItems field text = AllByRecursion (IsItem field) (slice_split (λ b. b == 44) text)

-- one name, or items with commas between them
abbrev pub IsPart : Field → List ℕ → Type 0
IsPart field text = IsOneOf text (names_of field) ⊎ AreItems field text

-- a part for each field
abbrev pub AreParts : List Field → List (List ℕ) → Type 0
AreParts [] [] = Unit {0}
AreParts [] (part ∷ parts) = ⊥
AreParts (field ∷ fields) [] = ⊥
AreParts (field ∷ fields) (part ∷ parts) = IsPart field part × AreParts fields parts

abbrev pub fields : List Field
fields = Minute ∷ Hour ∷ DayOfMonth ∷ Month ∷ DayOfWeek ∷ []

-- a schedule has a part for each field, with white space between them
abbrev pub IsCrontab : List ℕ → Type 0
IsCrontab text = (parts : List (List ℕ)) × SplitsInto text parts × AreParts fields parts

-- what the error shows of a text that is no schedule, and of its words with `_` between them
abbrev pub refusal : List ℕ → List ℕ → List ℕ
refusal text words =
    codes "\"" ++ (text ++ (codes "\" is not a valid crontab schedule.\n\t For help determining why this schedule is invalid, you can use this site: https://crontab.guru/#" ++ words))

-- the text of an error
abbrev pub message_of : CrontabParseError → List ℕ
message_of error = string_bytes error.message
