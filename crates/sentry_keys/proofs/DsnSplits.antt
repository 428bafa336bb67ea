-- The last segment of a path: each path has one.
use Rattle.std.proofs.Common.{◌≡◌, ◌≢◌, ◌⊎◌, inl, inr, ℕ, zero, suc, ◌+◌, ◌≤◌, eqb, List, [], ◌∷◌, ◌++◌, length, take, drop, Option, Some, None, refl, sym, ap, ◌∙◌, arith}
use Rattle.std.specs.Prelude.{codes, MatchOption}
use Rattle.std.specs.Borrow.{Bor}
use Rattle.std.specs.Str.{NoCharPasses}
use Rattle.std.specs.Str.Pattern.{RFindsChar}
use Rattle.std.proofs.lemmas.Bool.{cases_eq}
use Rattle.std.proofs.lemmas.List.{take-append-drop}
use Rattle.std.proofs.lemmas.Str.Pattern.{drop_at_char, NoCharPasses-char}
use Rattle.sentry_keys.specs.DsnPath.{IsSegment, IsSplit}

-- what `rsplit_once` says at a slash
pub last_cut_parts : (text : List ℕ) (r : Option (Bor (List ℕ) × Bor (List ℕ)))
    → MatchOption r (RFindsChar 47 text None) (λ x. (i : ℕ) × (j : ℕ) × RFindsChar 47 text (Some (i, j)) × (x.0.now ≡ take i text) × (x.1.now ≡ drop j text) × (i ≤ j) × (length x.0.now ≡ i) × (length x.1.now + j ≡ length text))
    → MatchOption r (IsSegment text) (λ x. (text ≡ x.0.now ++ 47 ∷ x.1.now) × IsSegment x.1.now)
last_cut_parts text None h = λ i lt. NoCharPasses-char 47 text i h (omega arith) lt
last_cut_parts text (Some (front, back)) (i, j, found, front-is, back-is, le, flen, blen) =
    let cut = drop_at_char 47 text i j found.1 (omega arith) in
    let whole : text ≡ front.now ++ 47 ∷ back.now = rw (front-is, back-is, ← cut) (sym (take-append-drop i text)) in
    let none : NoCharPasses (λ d. eqb d 47) back.now = rw back-is found.0 in
    (whole, λ k lt. NoCharPasses-char 47 back.now k none (omega arith) lt)

-- ---- some split

abbrev Cut : List ℕ → Type 0
Cut text = IsSegment text ⊎ ((front : List ℕ) × (project : List ℕ) × (text ≡ front ++ 47 ∷ project) × IsSegment project)

segment_more : (c : ℕ) (cs : List ℕ) → c ≢ 47 → IsSegment cs → IsSegment (c ∷ cs)
segment_more c cs other seg zero lt = other
segment_more c cs other seg (suc i) lt = seg i (omega arith)

one_more : (c : ℕ) (cs : List ℕ) → (c ≡ 47) ⊎ (c ≢ 47) → Cut cs → Cut (c ∷ cs)
one_more c cs d (inr (front, project, whole, seg)) = inr (c ∷ front, project, ap (λ t. c ∷ t) whole, seg)
one_more c cs (inl e) (inl seg) = inr ([], cs, ap (λ k. k ∷ cs) e, seg)
one_more c cs (inr other) (inl seg) = inl (segment_more c cs other seg)

cut_of : (text : List ℕ) → Cut text
cut_of [] = inl (λ i lt. absurd (omega arith))
cut_of (c ∷ cs) = one_more c cs (cases_eq c 47) (cut_of cs)

abbrev pub Split : List ℕ → Type 0
Split text = (path : List ℕ) × (project : List ℕ) × IsSplit text path project

split_at_cut : (text : List ℕ) → Cut text → Split text
split_at_cut text (inl seg) = (codes "/", text, inl (refl, seg, refl))
split_at_cut text (inr (front, project, whole, seg)) = (codes "/" ++ (front ++ codes "/"), project, inr (front, whole, seg, refl))

pub split_of : (text : List ℕ) → Split text
split_of text = split_at_cut text (cut_of text)

-- ---- no other split

holds_slash : (front back : List ℕ) → IsSegment (front ++ 47 ∷ back) → ⊥
holds_slash [] back seg = seg 0 (omega arith) refl
holds_slash (c ∷ front) back seg = holds_slash front back (λ i lt. seg (suc i) (omega arith))

same_cut : (f g p q : List ℕ) → f ++ 47 ∷ p ≡ g ++ 47 ∷ q → IsSegment p → IsSegment q → (f ≡ g) × (p ≡ q)
same_cut [] [] p q e sp sq = (refl, cc)
same_cut [] (c ∷ g) p q e sp sq = let more : p ≡ g ++ 47 ∷ q = cc in absurd (holds_slash g q (rw (← more) sp))
same_cut (c ∷ f) [] p q e sp sq = let more : q ≡ f ++ 47 ∷ p = cc in absurd (holds_slash f p (rw (← more) sq))
same_cut (c ∷ f) (d ∷ g) p q e sp sq =
    let rest : f ++ 47 ∷ p ≡ g ++ 47 ∷ q = cc in
    let head : c ≡ d = cc in
    let same = same_cut f g p q rest sp sq in
    (ap (λ k. k ∷ f) head ∙ ap (λ t. d ∷ t) same.0, same.1)

pub split_unique : (text p q s t : List ℕ) → IsSplit text p q → IsSplit text s t → (p ≡ s) × (q ≡ t)
split_unique text p q s t (inl (e, seg, is)) (inl (f, seg', is')) = (is ∙ sym is', sym e ∙ f)
split_unique text p q s t (inl (e, seg, is)) (inr (front, f, seg', is')) = absurd (holds_slash front t (rw (← f, e) seg))
split_unique text p q s t (inr (front, e, seg, is)) (inl (f, seg', is')) = absurd (holds_slash front q (rw (← e, f) seg'))
split_unique text p q s t (inr (front, e, seg, is)) (inr (other, f, seg', is')) =
    let same = same_cut front other q t (sym e ∙ f) seg seg' in
    (is ∙ ap (λ x. codes "/" ++ (x ++ codes "/")) same.0 ∙ sym is', same.1)
