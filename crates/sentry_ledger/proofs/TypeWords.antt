-- The words of item types, by their places.
use Rattle.std.proofs.Common.{◌≡◌, ℕ, suc, List, [], ◌∷◌, Option, Some, None, option_map, get_or, inl, inr, refl, sym, ◌∙◌, ap}
use Rattle.std.specs.Str.{bytes_eq}
use Rattle.std.proofs.lemmas.Bool.{cases_Bool}
use Rattle.std.proofs.lemmas.Option.{same_Some}
use Rattle.std.proofs.lemmas.Slice.Eq.{bytes_eq-Decides}
use Rattle.sentry_framing.specs.ItemHeader.{place_of}
use Rattle.sentry_framing.specs.ItemWords.{item_words, kind_place, kind_word}
use Rattle.sentry_framing.specs.declared.kind.ItemKind.{ItemKind}
use Rattle.sentry_framing.specs.declared.kind.ItemKind.TheVariants as kind

later : (w x : List ℕ) (xs : List (List ℕ)) (i : ℕ) (o : Option ℕ) → ((j : ℕ) → place_of w xs ≡ Some j → get_or xs j [] ≡ w) → place_of w xs ≡ o → option_map suc o ≡ Some i → get_or (x ∷ xs) i [] ≡ w
later w x xs i None there p f = absurd (cc)
later w x xs i (Some j) there p f = ap (λ n. get_or (x ∷ xs) n []) (sym (same_Some (suc j) i f)) ∙ there j p

-- at the place of a word stands the word
stands_at : (w : List ℕ) (ws : List (List ℕ)) (i : ℕ) → place_of w ws ≡ Some i → get_or ws i [] ≡ w
stands_at w [] i e = absurd (cc)
stands_at w (x ∷ xs) i e = elim (cases_Bool (bytes_eq w x)) [
  | inl holds ↦
      let f : Some 0 ≡ Some i = rw holds at e in
      ap (λ n. get_or (x ∷ xs) n []) (sym (same_Some 0 i f)) ∙ sym ((bytes_eq-Decides w x).0 holds)
  | inr fails ↦ later w x xs i (place_of w xs) (λ j p. stands_at w xs j p) refl (rw fails at e)
]

word_there : (k : ItemKind) → get_or item_words (kind_place k) [] ≡ kind_word k
word_there kind.Event = refl
word_there _ = refl

-- a word that stands at the place of a type is the word of that type
pub word_of_type : (w : List ℕ) (k : ItemKind) → place_of w item_words ≡ Some (kind_place k) → w ≡ kind_word k
word_of_type w k place = sym (stands_at w item_words (kind_place k) place) ∙ word_there k
