-- The types of attachments as texts.
use Rattle.std.proofs.Common.{◌≡◌, ℕ, zero, suc, List, [], ◌∷◌, Bool, true, false, ◌||◌, cond, Some, codes, refl, sym, ap, subst, IsUtf8, bytes_eq}
use Rattle.std.specs.List.{IsDistinct}
use Rattle.std.proofs.lemmas.Bool.{false≢true}
use Rattle.std.proofs.lemmas.Option.{same_Some}
use Rattle.std.proofs.lemmas.Slice.Eq.{bytes_eq-Decides}
use Rattle.json.proofs.Printed.Utf8.{IsUtf8-are_ascii}
use Rattle.sentry_json.specs.Keys.{is_among}
use Rattle.sentry_tables.specs.Cell.{Cell, text, choice}
use Rattle.sentry_tables.specs.Laws.{HasLaws}
use Rattle.sentry_tables.specs.Spelling.{SpellingLaws}
use Rattle.sentry_tables.proofs.Collections.{AreTexts}
use Rattle.sentry_tables.proofs.Spellings.{ReadLaws, read_to_laws, spelled_has_laws}
use Rattle.sentry_items.specs.AttachmentWords.{attachment_words, known, custom, attachment_type_of, attachment_type_text, attachment_type_norm, attachment_type_spelling, attachment_type_kind, IsAttachmentType}

-- each word differs from those behind it
pub no_word_twice : IsDistinct bytes_eq attachment_words
unfolding IsDistinct
no_word_twice = ((refl, (refl, (refl, (refl, tt)))), ((refl, (refl, (refl, tt))), ((refl, (refl, tt)), ((refl, tt), (tt, tt)))))

-- a type that a text is read as has that text
pub type_text_of : (word : List ℕ) → attachment_type_text (attachment_type_of word) ≡ word
type_text_of word = go (is_among word attachment_words)
  where
    go : (b : Bool) → attachment_type_text (cond b (known word) (custom word)) ≡ word
    go true = refl
    go false = refl

text_among : (word : List ℕ) (ks : List (List ℕ)) → AreTexts ks → is_among word ks ≡ true → IsUtf8 word
text_among word [] texts e = absurd (false≢true e)
text_among word (k ∷ ks) texts e = go (bytes_eq word k) refl e (text_among word ks texts.1)
  where
    go : (b : Bool) → bytes_eq word k ≡ b → b || is_among word ks ≡ true → (is_among word ks ≡ true → IsUtf8 word) → IsUtf8 word
    go true same e others = subst IsUtf8 (sym ((bytes_eq-Decides word k).0 same)) texts.0
    go false same e others = others e

known_texts : AreTexts attachment_words
known_texts = (
  IsUtf8-are_ascii (codes "event.attachment") refl,
  (
    IsUtf8-are_ascii (codes "event.minidump") refl,
    (IsUtf8-are_ascii (codes "event.applecrashreport") refl, (IsUtf8-are_ascii (codes "unreal.context") refl, (IsUtf8-are_ascii (codes "unreal.logs") refl, tt))),
  ),
)

pub type_text : (c : Cell) → IsAttachmentType c → IsUtf8 (attachment_type_text c)
type_text (choice zero (text word)) h = text_among word attachment_words known_texts h
type_text (choice zero _) h = absurd h
type_text (choice (suc zero) (text word)) h = h
type_text (choice (suc zero) _) h = absurd h
type_text (choice (suc (suc n)) c) h = absurd h
type_text _ h = absurd h

pub type_read : (word : List ℕ) → IsUtf8 word → IsAttachmentType (attachment_type_of word)
type_read word utf8 = go (is_among word attachment_words) refl
  where
    go : (b : Bool) → is_among word attachment_words ≡ b → IsAttachmentType (cond b (known word) (custom word))
    go true e = e
    go false e = utf8

-- ---- the normal form

-- the text of a type is read as its normal form
pub type_read_back : (c : Cell) → IsAttachmentType c → attachment_type_of (attachment_type_text c) ≡ attachment_type_norm c
type_read_back (choice zero (text word)) h = ap (λ b. cond b (known word) (custom word)) h
type_read_back (choice zero _) h = absurd h
type_read_back (choice (suc zero) (text word)) h = refl
type_read_back (choice (suc zero) _) h = absurd h
type_read_back (choice (suc (suc n)) c) h = absurd h
type_read_back _ h = absurd h

type_is_normal : (word : List ℕ) → attachment_type_norm (attachment_type_of word) ≡ attachment_type_of word
type_is_normal word = go (is_among word attachment_words) refl
  where
    go : (b : Bool) → is_among word attachment_words ≡ b → attachment_type_norm (cond b (known word) (custom word)) ≡ cond b (known word) (custom word)
    go true e = refl
    go false e = ap (λ b. cond b (known word) (custom word)) e

-- for any cell, the normal form is its own, and has the same text
pub type_norm_again : (c : Cell) → attachment_type_norm (attachment_type_norm c) ≡ attachment_type_norm c
type_norm_again (choice zero c) = refl
type_norm_again (choice (suc zero) (text word)) = type_is_normal word
type_norm_again (choice (suc zero) _) = refl
type_norm_again (choice (suc (suc n)) c) = refl
type_norm_again _ = refl

pub type_norm_text : (c : Cell) → attachment_type_text (attachment_type_norm c) ≡ attachment_type_text c
type_norm_text (choice zero c) = refl
type_norm_text (choice (suc zero) (text word)) = type_text_of word
type_norm_text (choice (suc zero) _) = refl
type_norm_text (choice (suc (suc n)) c) = refl
type_norm_text _ = refl

type_reads : ReadLaws (λ word. Some (attachment_type_of word)) attachment_type_text attachment_type_norm IsAttachmentType
type_reads = record {
  reads = λ c stored. ap Some (type_read_back c stored);
  stored = λ word c utf8 read. subst IsAttachmentType (same_Some (attachment_type_of word) c read) (type_read word utf8);
  normal = λ word c read. subst (λ x. attachment_type_norm x ≡ x) (same_Some (attachment_type_of word) c read) (type_is_normal word);
  utf8 = type_text;
}

pub type_laws : SpellingLaws attachment_type_spelling
type_laws = read_to_laws (λ word. Some (attachment_type_of word)) attachment_type_text attachment_type_norm IsAttachmentType type_reads

pub type_has_laws : HasLaws attachment_type_kind
type_has_laws = spelled_has_laws attachment_type_spelling type_laws
