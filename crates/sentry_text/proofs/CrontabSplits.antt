-- Each text has its words, and no others.
use Rattle.std.proofs.Common.{◌≡◌, ℕ, ◌<◌, ◌⊎◌, inl, inr, Bool, true, false, not, List, [], ◌∷◌, ◌++◌, length, refl, sym, ap, subst, ◌∙◌, arith, length-append, append_assoc, IsUtf8}
use Rattle.std.specs.Char.{IsScalar, encode_utf8, is_whitespace, is_not_whitespace}
use Rattle.std.specs.Prelude.{encode_utf8_all}
use Rattle.std.specs.Str.{all_scalars, NoCharPasses, EmptyOrStartsWithPassing}
use Rattle.std.proofs.lemmas.Bool.{and_parts}
use Rattle.std.proofs.lemmas.Str.{NoCharPasses-nil, length-encode, len_utf8_bounds}
use Rattle.sentry_text.specs.Crontab.{SplitsInto}
use Rattle.sentry_text.proofs.CrontabParts.{same_word, blank_has_none}

pub same_words : (text : List ℕ) (a b : List (List ℕ)) → SplitsInto text a → SplitsInto text b → a ≡ b
same_words text [] [] h k = refl
same_words text [] (w ∷ b) h k = absurd (blank_has_none text w k.0 h k.1)
same_words text (v ∷ a) [] h k = absurd (blank_has_none text v h.0 k h.1)
same_words text (v ∷ a) (w ∷ b) h k =
    let first = same_word text v h.0 w k.0 h.1 k.1 in
    let after = subst (λ (t : List ℕ). SplitsInto t a) first.1 h.2 in
    let others = same_words k.0 a b after k.2 in
    let word = first.0 in
    cc

-- ---- the words, from the last character to the first

-- white space, or nothing, and then words
abbrev BeginsBlank : List ℕ → Type 0
BeginsBlank text = ((more : List ℕ) × EmptyOrStartsWithPassing is_whitespace text more) × ((words : List (List ℕ)) × SplitsInto text words)

-- a word with nothing before it, and then others
record BeginsWithWord (text : List ℕ) : Type 0 where
  word : List ℕ
  rest : List ℕ
  split : text ≡ word ++ rest
  nonempty : 0 < length word
  has_no_space : NoCharPasses is_whitespace word
  begins_blank : BeginsBlank rest

none_pass_on : (p : ℕ → Bool) (c : ℕ) (x : List ℕ) → p c ≡ false → NoCharPasses p x → NoCharPasses p (encode_utf8 c ++ x)
none_pass_on p c x fails h = (c ∷ h.0, ap (λ (t : List ℕ). encode_utf8 c ++ t) h.1, (fails, h.2))

after_blank : (c : ℕ) (text : List ℕ) (words : List (List ℕ)) → is_whitespace c ≡ true → SplitsInto text words → SplitsInto (encode_utf8 c ++ text) words
after_blank c text [] blank splits = none_pass_on is_not_whitespace c text (ap not blank) splits
after_blank c text (w ∷ words) blank splits =
    let s = splits.1 in (
      splits.0,
      record {
        gap = encode_utf8 c ++ s.gap;
        split = ap (λ (t : List ℕ). encode_utf8 c ++ t) s.split ∙ sym (append_assoc (encode_utf8 c) s.gap (w ++ splits.0));
        nonempty = s.nonempty;
        gap_is_blank = none_pass_on is_not_whitespace c s.gap (ap not blank) s.gap_is_blank;
        word_has_no_space = s.word_has_no_space;
        rest_starts_blank = s.rest_starts_blank;
      },
      splits.2,
    )

words_of : (text : List ℕ) → BeginsBlank text ⊎ BeginsWithWord text → (words : List (List ℕ)) × SplitsInto text words
words_of text (inl h) = h.1
words_of text (inr h) = (
  h.word ∷ h.begins_blank.1.0,
  (
    h.rest,
    record {
      gap = [];
      split = h.split;
      nonempty = h.nonempty;
      gap_is_blank = NoCharPasses-nil is_not_whitespace;
      word_has_no_space = h.has_no_space;
      rest_starts_blank = h.begins_blank.0;
    },
    h.begins_blank.1.1,
  ),
)

before_word : (c : ℕ) (text : List ℕ) → is_whitespace c ≡ false → BeginsBlank text ⊎ BeginsWithWord text → BeginsWithWord (encode_utf8 c ++ text)
before_word c text solid (inl h) = record {
  word = encode_utf8 c ++ [];
  rest = text;
  split = sym (append_assoc (encode_utf8 c) [] text);
  nonempty = omega (arith, length-append (encode_utf8 c) [], length-encode c, len_utf8_bounds c);
  has_no_space = none_pass_on is_whitespace c [] solid (NoCharPasses-nil is_whitespace);
  begins_blank = h;
}
before_word c text solid (inr h) = record {
  word = encode_utf8 c ++ h.word;
  rest = h.rest;
  split = ap (λ (t : List ℕ). encode_utf8 c ++ t) h.split ∙ sym (append_assoc (encode_utf8 c) h.word h.rest);
  nonempty = omega (arith, length-append (encode_utf8 c) h.word, h.nonempty);
  has_no_space = none_pass_on is_whitespace c h.word solid h.has_no_space;
  begins_blank = h.begins_blank;
}

one_char : (c : ℕ) (text : List ℕ) (blank : Bool) → is_whitespace c ≡ blank → IsScalar c → BeginsBlank text ⊎ BeginsWithWord text → BeginsBlank (encode_utf8 c ++ text) ⊎ BeginsWithWord (encode_utf8 c ++ text)
one_char c text true is scalar h =
    let words = words_of text h in
    inl ((text, λ _. (c, is, refl, scalar)), (words.0, after_blank c text words.0 is words.1))
one_char c text false is scalar h = inr (before_word c text is h)

split_chars : (cs : List ℕ) → all_scalars cs ≡ true → BeginsBlank (encode_utf8_all cs) ⊎ BeginsWithWord (encode_utf8_all cs)
split_chars [] h = inl (([], λ some. absurd (omega (arith, some))), ([], NoCharPasses-nil is_not_whitespace))
split_chars (c ∷ cs) h =
    let both = and_parts _ _ h in
    one_char c (encode_utf8_all cs) (is_whitespace c) refl both.0 (split_chars cs both.1)

pub some_words : (text : List ℕ) → IsUtf8 text → (words : List (List ℕ)) × SplitsInto text words
some_words text h =
    subst (λ (t : List ℕ). (words : List (List ℕ)) × SplitsInto t words) h.1.1 (words_of (encode_utf8_all h.0) (split_chars h.0 h.1.0))
