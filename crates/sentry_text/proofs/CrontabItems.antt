-- Which bytes numbers and ranges lack, and that a text is cut in one way.
use Rattle.std.proofs.Common.{◌≡◌, ◌≢◌, ℕ, zero, suc, ◌<◌, inl, inr, Bool, true, false, cond, eqb, List, [], ◌∷◌, ◌++◌, length, get_or, drop, refl, sym, subst, ◌∙◌, arith, length-append, Option, Some, None, ◌↔◌, IsTrue, nat_eq}
use Rattle.std.specs.Int.{IsInRange}
use Rattle.std.specs.Str.Parse.{AllDigits}
use Rattle.std.proofs.lemmas.Bool.{eqb-true}
use Rattle.std.proofs.lemmas.Bool.Decides.{nat_tests}
use Rattle.std.proofs.lemmas.Str.Parse.{digit_at}
use Rattle.std.proofs.Math.Seq.{get_or-append_seam}
use Rattle.sentry_text.specs.declared.crontab.field.Field.{Field}
use Rattle.sentry_text.specs.Number.{IsNumber}
use Rattle.sentry_text.specs.Crontab.{AreBounds, IsRange, IsStep, IsSteppedRange, IsWithin, IsItem, AreItems}
use Rattle.std.specs.Bool.{MatchBool}
use Rattle.std.specs.List.{AllWithin, HoldsAt, slice_split, AllByRecursion}
use Rattle.std.proofs.lemmas.Option.{some_pair_parts}
use lib.Pointwise.{pointwise}

-- no byte of the text is this one
abbrev pub Lacks : ℕ → List ℕ → Type 0
Lacks byte text = (i : ℕ) → i < length text → get_or text i 0 ≢ byte

-- the text is cut at the first such byte
abbrev pub IsCutAt : ℕ → List ℕ → List ℕ → List ℕ → Type 0
IsCutAt byte text front back = (text ≡ front ++ byte ∷ back) × Lacks byte front

lacks_cons : (b c : ℕ) (cs : List ℕ) → c ≢ b → Lacks b cs → Lacks b (c ∷ cs)
lacks_cons b c cs h k zero lt = h
lacks_cons b c cs h k (suc i) lt = k i (omega arith)

lacks_tail : (b c : ℕ) (cs : List ℕ) → Lacks b (c ∷ cs) → Lacks b cs
lacks_tail b c cs h i lt = h (suc i) (omega arith)

lacks_head : (b c : ℕ) (cs : List ℕ) → Lacks b (c ∷ cs) → c ≢ b
lacks_head b c cs h = h 0 (omega arith)

digits_lack : (b : ℕ) (ds : List ℕ) → ¬ (IsInRange 48 57 b) → AllDigits 10 ds → Lacks b ds
digits_lack b ds other h i lt e = other (subst (λ (k : ℕ). IsInRange 48 57 k) e (digit_at ds i h lt))

without_plus : (t : Bool) (b c : ℕ) (cs : List ℕ) → eqb c 43 ≡ t → ¬ (IsInRange 48 57 b) → 43 ≢ b → AllDigits 10 (drop (cond t 1 0) (c ∷ cs)) → Lacks b (c ∷ cs)
without_plus true b c cs e other plus h =
    let same : c ≡ 43 = eqb-true c 43 e in
    lacks_cons b c cs (λ k. plus (sym same ∙ k)) (digits_lack b cs other h)
without_plus false b c cs e other plus h = digits_lack b (c ∷ cs) other h

pub number_lacks : (b : ℕ) (text : List ℕ) (n : ℕ) → ¬ (IsInRange 48 57 b) → 43 ≢ b → IsNumber 10 text n → Lacks b text
number_lacks b [] n other plus h = λ i lt. absurd (omega (arith, lt))
number_lacks b (c ∷ cs) n other plus h = without_plus (eqb c 43) b c cs refl other plus h.digits.1

pub number_same : (text : List ℕ) (m n : ℕ) → IsNumber 10 text m → IsNumber 10 text n → m ≡ n
number_same text m n h k = h.value ∙ sym k.value

-- what is cut at a byte has it
pub has_byte : (b : ℕ) (text front back : List ℕ) → text ≡ front ++ b ∷ back → Lacks b text → ⊥
has_byte b text front back e h =
    let none : Lacks b (front ++ b ∷ back) = subst (Lacks b) e h in
    none (length front) (omega (arith, length-append front (b ∷ back))) (get_or-append_seam front b back 0)

-- a text is cut at the first of a byte in one way
pub same_cut : (b : ℕ) (x y x₂ y₂ : List ℕ) → x ++ b ∷ y ≡ x₂ ++ b ∷ y₂ → Lacks b x → Lacks b x₂ → (x ≡ x₂) × (y ≡ y₂)
same_cut b [] y [] y₂ e h k = (refl, cc)
same_cut b [] y (d ∷ x₂) y₂ e h k = let same : d ≡ b = cc in absurd (lacks_head b d x₂ k same)
same_cut b (c ∷ x) y [] y₂ e h k = let same : c ≡ b = cc in absurd (lacks_head b c x h same)
same_cut b (c ∷ x) y (d ∷ x₂) y₂ e h k =
    let heads : c ≡ d = cc in
    let tails : x ++ b ∷ y ≡ x₂ ++ b ∷ y₂ = cc in
    let rest = same_cut b x y x₂ y₂ tails (lacks_tail b c x h) (lacks_tail b d x₂ k) in
    let fronts = rest.0 in
    (cc, rest.1)

lacks_append : (b : ℕ) (x : List ℕ) (c : ℕ) (y : List ℕ) → Lacks b x → c ≢ b → Lacks b y → Lacks b (x ++ c ∷ y)
lacks_append b [] c y h k l = lacks_cons b c y k l
lacks_append b (d ∷ x) c y h k l = lacks_cons b d (x ++ c ∷ y) (lacks_head b d x h) (lacks_append b x c y (lacks_tail b d x h) k l)

apart : (m n : ℕ) → eqb m n ≡ false → m ≢ n
apart m n e h = grind (arith, nat_tests)

not_digit : (b : ℕ) → b < 48 → ¬ (IsInRange 48 57 b)
not_digit b h k = omega (arith, k.0)

pub number_lacks_minus : (text : List ℕ) (n : ℕ) → IsNumber 10 text n → Lacks 45 text
number_lacks_minus text n h = number_lacks 45 text n (not_digit 45 (omega arith)) (apart 43 45 refl) h

-- the two ways to cut a range at its minus are one
pub bounds_at : (text first last : List ℕ) (m n : ℕ) → IsCutAt 45 text first last → AreBounds text m n → IsNumber 10 first m × IsNumber 10 last n
bounds_at text first last m n cut h =
    let same = same_cut 45 h.first h.last first last (sym h.whole ∙ cut.0) (number_lacks_minus h.first m h.from) cut.1 in
    (subst (λ (t : List ℕ). IsNumber 10 t m) same.0 h.from, subst (λ (t : List ℕ). IsNumber 10 t n) same.1 h.to)

pub no_bounds : (text : List ℕ) (m n : ℕ) → Lacks 45 text → AreBounds text m n → ⊥
no_bounds text m n h k = has_byte 45 text k.first k.last k.whole h

pub range_lacks_slash : (field : Field) (text : List ℕ) → IsRange field text → Lacks 47 text
range_lacks_slash field text (inl e) = subst (Lacks 47) (sym e) (lacks_cons 47 42 [] (apart 42 47 refl) (λ i lt. absurd (omega (arith, lt))))
range_lacks_slash field text (inr (m, n, h, w)) =
    subst (Lacks 47) (sym h.whole) (lacks_append 47 h.first 45 h.last (number_lacks 47 h.first m (not_digit 47 (omega arith)) (apart 43 47 refl) h.from) (apart 45 47 refl) (number_lacks 47 h.last n (not_digit 47 (omega arith)) (apart 43 47 refl) h.to))

-- a number is no range
pub not_range : (field : Field) (text : List ℕ) (n : ℕ) → IsNumber 10 text n → IsSteppedRange field text → ⊥
not_range field text n h (inl (inl e)) = has_byte 42 text [] [] e (number_lacks 42 text n (not_digit 42 (omega arith)) (apart 43 42 refl) h)
not_range field text n h (inl (inr (k, l, b, w))) = no_bounds text k l (number_lacks_minus text n h) b
not_range field text n h (inr s) = has_byte 47 text s.range s.step s.whole (number_lacks 47 text n (not_digit 47 (omega arith)) (apart 43 47 refl) h)

-- what a cut at the slash says
pub stepped_at : (field : Field) (text range step : List ℕ) → IsCutAt 47 text range step → IsSteppedRange field text → IsRange field range × IsStep step
stepped_at field text range step cut (inl h) = absurd (has_byte 47 text range step cut.0 (range_lacks_slash field text h))
stepped_at field text range step cut (inr s) =
    let same = same_cut 47 s.range s.step range step (sym s.whole ∙ cut.0) (range_lacks_slash field s.range s.is_range) cut.1 in
    (subst (IsRange field) same.0 s.is_range, subst IsStep same.1 s.is_step)

pub not_stepped : (field : Field) (text : List ℕ) → Lacks 47 text → IsSteppedRange field text → IsRange field text
not_stepped field text h (inl r) = r
not_stepped field text h (inr s) = absurd (has_byte 47 text s.range s.step s.whole h)

-- ---- what the functions answer

abbrev NotStar : List ℕ → Type 0
NotStar text = false ≡ pointwise nat_eq text (42 ∷ [])

star_is_star : (text : List ℕ) → text ≡ 42 ∷ [] → NotStar text → ⊥
star_is_star text e h = let k : NotStar (42 ∷ []) = subst (λ (t : List ℕ). NotStar t) e h in absurd cc

same_pair : (a b m n : ℕ) → ◌≡◌ {A = Option (ℕ × ℕ)} (Some (a, b)) (Some (m, n)) → (a ≡ m) × (b ≡ n)
same_pair a b m n e = some_pair_parts a m b n e

within_from_range : (field : Field) (text : List ℕ) (a b : ℕ) → NotStar text → ((m n : ℕ) → AreBounds text m n → ◌≡◌ {A = Option (ℕ × ℕ)} (Some (a, b)) (Some (m, n))) → IsRange field text → IsWithin field a b
within_from_range field text a b star only (inl e) = absurd (star_is_star text e star)
within_from_range field text a b star only (inr (m, n, h, w)) =
    let same = same_pair a b m n (only m n h) in
    rw (same.0, same.1) w

pub range_of_bounds : (field : Field) (text : List ℕ) (a b : ℕ) (r : Bool) → NotStar text → AreBounds text a b → ((m n : ℕ) → AreBounds text m n → ◌≡◌ {A = Option (ℕ × ℕ)} (Some (a, b)) (Some (m, n)))
    → (IsTrue r ↔ IsWithin field a b) → IsTrue r ↔ IsRange field text
range_of_bounds field text a b r star found only answer =
    (λ t. inr (a, b, found, answer.0 t), λ h. answer.1 (within_from_range field text a b star only h))

never_range : (field : Field) (text : List ℕ) → NotStar text → ((m n : ℕ) → AreBounds text m n → ◌≡◌ {A = Option (ℕ × ℕ)} None (Some (m, n))) → IsRange field text → ⊥
never_range field text star only (inl e) = star_is_star text e star
never_range field text star only (inr (m, n, h, w)) = let k = only m n h in absurd cc

pub no_range : (field : Field) (text : List ℕ) → NotStar text → ((m n : ℕ) → AreBounds text m n → ◌≡◌ {A = Option (ℕ × ℕ)} None (Some (m, n))) → IsTrue false ↔ IsRange field text
no_range field text star only = (λ t. absurd cc, λ h. absurd (never_range field text star only h))

pub stepped_answer : (field : Field) (text range step : List ℕ) (r : Bool) → IsCutAt 47 text range step → (IsTrue true ↔ IsRange field range) → (IsTrue r ↔ IsStep step) → IsTrue r ↔ IsSteppedRange field text
stepped_answer field text range step r cut is answer =
    (λ t. inr (record { range = range; step = step; whole = cut.0; is_range = is.0 refl; is_step = answer.0 t }), λ h. answer.1 (stepped_at field text range step cut h).1)

pub stepped_fails : (field : Field) (text range step : List ℕ) (r : Bool) → IsCutAt 47 text range step → r ≡ false → (IsTrue r ↔ IsRange field range) → IsTrue r ↔ IsSteppedRange field text
stepped_fails field text range step r cut fails answer =
    (λ t. absurd (let k : true ≡ true = refl in cc), λ h. answer.1 (stepped_at field text range step cut h).0)

pub unstepped_answer : (field : Field) (text : List ℕ) (r : Bool) → Lacks 47 text → (IsTrue r ↔ IsRange field text) → IsTrue r ↔ IsSteppedRange field text
unstepped_answer field text r none answer = (λ t. inl (answer.0 t), λ h. answer.1 (not_stepped field text none h))

within_from_item : (field : Field) (text : List ℕ) (k : ℕ) → IsNumber 10 text k → IsItem field text → IsWithin field k k
within_from_item field text k h (inl (n, is, w)) = let same = number_same text k n h is in rw same w
within_from_item field text k h (inr s) = absurd (not_range field text k h s)

pub number_item : (field : Field) (text : List ℕ) (k : ℕ) (r : Bool) → IsNumber 10 text k → (IsTrue r ↔ IsWithin field k k) → IsTrue r ↔ IsItem field text
number_item field text k r is answer = (λ t. inl (k, is, answer.0 t), λ h. answer.1 (within_from_item field text k is h))

range_from_item : (field : Field) (text : List ℕ) → ((n : ℕ) → IsNumber 10 text n → ◌≡◌ {A = Option ℕ} None (Some n)) → IsItem field text → IsSteppedRange field text
range_from_item field text only (inl (n, is, w)) = let k = only n is in absurd cc
range_from_item field text only (inr s) = s

pub range_item : (field : Field) (text : List ℕ) (r : Bool) → ((n : ℕ) → IsNumber 10 text n → ◌≡◌ {A = Option ℕ} None (Some n)) → (IsTrue r ↔ IsSteppedRange field text) → IsTrue r ↔ IsItem field text
range_item field text r only answer = (λ t. inr (answer.0 t), λ h. answer.1 (range_from_item field text only h))

-- ---- lists of items

each_holds : (P : List ℕ → Type 0) (xs : List (List ℕ)) → AllWithin P xs 0 (length xs) → AllByRecursion P xs
each_holds P [] h = tt
each_holds P (x ∷ xs) h = (h 0 x (omega arith) (omega arith), each_holds P xs (λ k d low high. h (suc k) d (omega arith) (omega arith)))

holds_at : (P : List ℕ → Type 0) (xs : List (List ℕ)) (k : ℕ) (d : List ℕ) → AllByRecursion P xs → k < length xs → P (get_or xs k d)
holds_at P [] k d h lt = absurd (omega (arith, lt))
holds_at P (x ∷ xs) zero d h lt = h.0
holds_at P (x ∷ xs) (suc k) d h lt = holds_at P xs k d h.1 (omega arith)

abbrev items_in : List ℕ → List (List ℕ)
items_in text = slice_split (λ b. eqb b 44) text

pub items_answer : (field : Field) (text : List ℕ) (r : Bool)
    → MatchBool r (AllWithin (IsItem field) (slice_split (λ b. eqb b 44) text) 0 (length (slice_split (λ b. eqb b 44) text))) ((k : ℕ) × (k < length (slice_split (λ b. eqb b 44) text)) × HoldsAt (λ t. IsItem field t → ⊥) (slice_split (λ b. eqb b 44) text) k)
    → IsTrue r ↔ AreItems field text
items_answer field text true h = (λ t. each_holds (IsItem field) (items_in text) h, λ a. refl)
items_answer field text false h = (λ t. absurd cc, λ a. absurd (h.2 [] (holds_at (IsItem field) (items_in text) h.0 [] a h.1)))
