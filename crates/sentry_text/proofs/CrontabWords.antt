-- The words of a text, joined one after the other.
use Rattle.std.proofs.Common.{◌≡◌, ℕ, ◌<◌, List, [], ◌∷◌, ◌++◌, length, refl, sym, ap, subst, ◌∙◌, arith, length-append, append_assoc, append-nil}
use Rattle.std.specs.List.{join_with_byte}
use Rattle.std.specs.Str.{NoCharPasses}
use Rattle.std.specs.Char.{is_not_whitespace}
use Rattle.sentry_text.specs.Crontab.{StartsWithWord, SplitsInto}

-- words of the text are joined, and those of the rest are the others
pub record IsJoinedSoFar (text joined rest : List ℕ) : Type 0 where
  pub done : List (List ℕ)
  pub is_joined : joined ≡ join_with_byte 95 done
  pub none_yet : length joined ≡ 0 → done ≡ []
  pub others : (more : List (List ℕ)) → SplitsInto rest more → SplitsInto text (done ++ more)

pub nothing_joined : (text joined rest : List ℕ) → joined ≡ [] → rest ≡ text → IsJoinedSoFar text joined rest
nothing_joined text joined rest none all =
    record { done = []; is_joined = none; none_yet = λ _. refl; others = λ more h. subst (λ (t : List ℕ). SplitsInto t more) all h }

join_push : (x : List ℕ) (xs : List (List ℕ)) (word : List ℕ) → join_with_byte 95 ((x ∷ xs) ++ word ∷ []) ≡ join_with_byte 95 (x ∷ xs) ++ 95 ∷ word
join_push x [] word = refl
join_push x (y ∷ xs) word =
    ap (λ (t : List ℕ). x ++ 95 ∷ t) (join_push y xs word) ∙ sym (append_assoc x (95 ∷ join_with_byte 95 (y ∷ xs)) (95 ∷ word))

one_more : (text joined rest word after new : List ℕ) (h : IsJoinedSoFar text joined rest) → new ≡ join_with_byte 95 (h.done ++ word ∷ []) → 0 < length new → StartsWithWord rest word after → IsJoinedSoFar text new after
one_more text joined rest word after new h is some s = record {
  done = h.done ++ word ∷ [];
  is_joined = is;
  none_yet = λ e. absurd (omega (arith, some, e));
  others = λ more splits. subst (λ (ws : List (List ℕ)). SplitsInto text ws) (sym (append_assoc h.done (word ∷ []) more)) (h.others (word ∷ more) (after, s, splits));
}

pub first_word : (text joined rest word after new : List ℕ) → IsJoinedSoFar text joined rest → length joined ≡ 0 → new ≡ joined ++ word → StartsWithWord rest word after → IsJoinedSoFar text new after
first_word text joined rest word after new h none is s =
    let nothing : joined ≡ [] = h.is_joined ∙ ap (join_with_byte 95) (h.none_yet none) in
    one_more text joined rest word after new h
    (is ∙ (ap (λ (t : List ℕ). t ++ word) nothing ∙ sym (ap (λ (ws : List (List ℕ)). join_with_byte 95 (ws ++ word ∷ [])) (h.none_yet none))))
    (omega (arith, s.nonempty, ap length is, length-append joined word)) s

next_is : (done : List (List ℕ)) (joined word : List ℕ) → joined ≡ join_with_byte 95 done → 0 < length joined → (joined ++ 95 ∷ []) ++ word ≡ join_with_byte 95 (done ++ word ∷ [])
next_is [] joined word is some = absurd (omega (arith, some, ap length is))
next_is (x ∷ xs) joined word is some =
    append_assoc joined (95 ∷ []) word ∙ (ap (λ (t : List ℕ). t ++ 95 ∷ word) is ∙ sym (join_push x xs word))

pub next_word : (text joined rest word after new : List ℕ) → IsJoinedSoFar text joined rest → 0 < length joined → new ≡ (joined ++ 95 ∷ []) ++ word → StartsWithWord rest word after → IsJoinedSoFar text new after
next_word text joined rest word after new h some is s =
    one_more text joined rest word after new h (is ∙ next_is h.done joined word h.is_joined some)
    (omega (arith, s.nonempty, ap length is, length-append (joined ++ 95 ∷ []) word)) s

pub all_joined : (text joined rest : List ℕ) → IsJoinedSoFar text joined rest → NoCharPasses is_not_whitespace rest → (words : List (List ℕ)) × SplitsInto text words × (joined ≡ join_with_byte 95 words)
all_joined text joined rest h blank =
    (h.done, subst (λ (ws : List (List ℕ)). SplitsInto text ws) (append-nil h.done) (h.others [] blank), h.is_joined)
