-- The types of attachments: five known words, and any other text.
use Rattle.std.specs.Prelude.{◌≡◌, ℕ, zero, suc, List, [], ◌∷◌, true, Some, codes, cond}
use Rattle.sentry_json.specs.Keys.{is_among}
use Rattle.sentry_tables.specs.Basic.{IsText}
use Rattle.sentry_tables.specs.Cell.{Cell, text, choice}
use Rattle.sentry_tables.specs.Kind.{Kind}
use Rattle.sentry_tables.specs.Spelling.{Spelling, read_to, spelled_kind}

abbrev pub attachment_words : List (List ℕ)
attachment_words =
    codes "event.attachment" ∷ codes "event.minidump" ∷ codes "event.applecrashreport" ∷ codes "unreal.context" ∷ codes "unreal.logs" ∷ []

-- a type is its word, as a known one or as a custom one
abbrev pub known : List ℕ → Cell
known word = choice 0 (text word)

abbrev pub custom : List ℕ → Cell
custom word = choice 1 (text word)

-- the type that a text is read as: a known one where the text is its word
abbrev pub attachment_type_of : List ℕ → Cell
attachment_type_of word = cond (is_among word attachment_words) (known word) (custom word)

abbrev pub word_in : Cell → List ℕ
word_in (text word) = word
word_in _ = []

-- the text of a type
abbrev pub attachment_type_text : Cell → List ℕ
attachment_type_text (choice n c) = word_in c
attachment_type_text _ = []

abbrev pub IsKnownWord : Cell → Type 0
IsKnownWord (text word) = is_among word attachment_words ≡ true
IsKnownWord _ = ⊥

-- what Rust's type holds: a known type, or a text as a custom one
abbrev pub IsAttachmentType : Cell → Type 0
IsAttachmentType (choice zero c) = IsKnownWord c
IsAttachmentType (choice (suc zero) c) = IsText c
IsAttachmentType _ = ⊥

-- a custom text that is a known word is the known type
abbrev pub attachment_type_norm : Cell → Cell
attachment_type_norm (choice (suc zero) (text word)) = attachment_type_of word
attachment_type_norm c = c

-- each text is read as a type, and a type is written as its text
abbrev pub attachment_type_spelling : Spelling
attachment_type_spelling = read_to (λ word. Some (attachment_type_of word)) attachment_type_text attachment_type_norm IsAttachmentType

abbrev pub attachment_type_kind : Kind
attachment_type_kind = spelled_kind attachment_type_spelling
