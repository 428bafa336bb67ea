-- What is read from a decimal text is what it is worth, and nothing else is.
use Rattle.std.proofs.Common.{◌≡◌, ℕ, ◌+◌, ◌<◌, ◌≤◌, ◌⊎◌, inl, inr, Bool, true, false, cond, eqb, ltb, leb, min, List, [], ◌∷◌, ◌++◌, length, take, Option, Some, None, Result, Ok, Err, option_map, refl, sym, ap, subst, ◌∙◌, append_assoc, ◌&&◌, ◌||◌, arith}
use Rattle.std.specs.Char.{is_ascii_digit, digit_value}
use Rattle.std.specs.List.{prefix_len}
use Rattle.std.specs.Str.Parse.{AllDigits, digits_value}
use Rattle.std.proofs.lemmas.Bool.{eqb-true, cases_lt}
use Rattle.std.proofs.lemmas.Bool.Decides.{nat_tests}
use Rattle.std.proofs.lemmas.List.{append-nil}
use Rattle.std.proofs.lemmas.Option.{cond_some, some_pair_parts}
use Rattle.std.proofs.lemmas.Str.Parse.{digit_from_value}
use Rattle.std.proofs.Math.Seq.{take-length}
use Rattle.std.specs.Result.{result_ok}
use Rattle.sentry_moments.specs.declared.decimal.DecimalError.{DecimalError}
use Rattle.sentry_moments.specs.declared.decimal.DecimalError.TheVariants.{InvalidText, OutOfRange}
use Rattle.sentry_moments.specs.Decimal.{IsSign, NoSign, Plus, Minus, IsPoint, NoPoint, Point, IsExponent, NoExponent, Exponent, IsDecimal, IsNoDecimal, IsOutside, ReadsDecimal, Worth, Billionths, BelowZero, worth, billionths}
use Rattle.sentry_moments.specs.DecimalScan.{is_minus, unsigned, places, after_places, short_number, exponent}
use Rattle.sentry_moments.specs.Digits.{front_digits, after_digits}
use Rattle.sentry_moments.proofs.Choices.{if_true, if_false, map_some}
use Rattle.sentry_moments.proofs.Fronts.{front_digits_are, front_and_rest, front_again, after_again, prefix_of_digits}

-- ---- the sign

sign_case : (c : ℕ) (rest : List ℕ) (p m : Bool) → eqb c 43 ≡ p → eqb c 45 ≡ m → (s : List ℕ) × IsSign s m × (c ∷ rest ≡ s ++ cond (p || m) rest (c ∷ rest))
sign_case c rest true true e f = absurd (let a = eqb-true c 43 e in let b = eqb-true c 45 f in omega (arith, a, b))
sign_case c rest true false e f = (43 ∷ [], Plus, ap (λ (b : ℕ). b ∷ rest) (eqb-true c 43 e))
sign_case c rest false true e f = (45 ∷ [], Minus, ap (λ (b : ℕ). b ∷ rest) (eqb-true c 45 f))
sign_case c rest false false e f = ([], NoSign, refl)

sign_of : (text : List ℕ) → (s : List ℕ) × IsSign s (is_minus text) × (text ≡ s ++ unsigned text)
unfolding is_minus unsigned
sign_of [] = ([], NoSign, refl)
sign_of (c ∷ rest) = sign_case c rest (eqb c 43) (eqb c 45) refl refl

-- the text begins with a byte that is no sign
abbrev HasNoSign : List ℕ → Type 0
HasNoSign [] = ⊥
HasNoSign (c ∷ rest) = (eqb c 43 ≡ false) × (eqb c 45 ≡ false)

-- what stands behind a sign is read as it is
unsigned_again : (s text : List ℕ) (negative : Bool) → IsSign s negative → HasNoSign text → (unsigned (s ++ text) ≡ text) × (is_minus (s ++ text) ≡ negative)
unfolding is_minus unsigned
unsigned_again s text negative Plus h = (refl, refl)
unsigned_again s text negative Minus h = (refl, refl)
unsigned_again s [] negative NoSign h = absurd h
unsigned_again s (c ∷ rest) negative NoSign h = (rw (h.0, h.1) refl, h.1)

digit_no_sign : (c : ℕ) → digit_value c < 10 → (eqb c 43 ≡ false) × (eqb c 45 ≡ false) × (eqb c 46 ≡ false)
digit_no_sign c h =
    let range = digit_from_value c h in (grind (arith, nat_tests), grind (arith, nat_tests), grind (arith, nat_tests))

digits_no_sign : (ds rest : List ℕ) → AllDigits 10 ds → 0 < length ds → HasNoSign (ds ++ rest)
digits_no_sign [] rest h some = absurd (omega (arith, some))
digits_no_sign (d ∷ ds) rest h some = let t = digit_no_sign d h.0 in (t.0, t.1)

-- ---- the point and its places

point_case : (c : ℕ) (rest : List ℕ) (b : Bool) → eqb c 46 ≡ b → (p : List ℕ) × IsPoint p (cond b (front_digits rest) []) × (c ∷ rest ≡ p ++ cond b (after_digits rest) (c ∷ rest))
point_case c rest true e = (46 ∷ front_digits rest, Point (front_digits rest) (front_digits_are rest), ap (λ (b : ℕ). b ∷ rest) (eqb-true c 46 e) ∙ ap (λ (t : List ℕ). 46 ∷ t) (front_and_rest rest))
point_case c rest false e = ([], NoPoint, refl)

point_of : (text : List ℕ) → (p : List ℕ) × IsPoint p (places text) × (text ≡ p ++ after_places text)
unfolding places after_places
point_of [] = ([], NoPoint, refl)
point_of (c ∷ rest) = point_case c rest (eqb c 46) refl

-- what may stand behind the places: no digit, and no point
abbrev IsEnd : List ℕ → Type 0
IsEnd text = (prefix_len is_ascii_digit text ≡ 0) × (places text ≡ []) × (after_places text ≡ text)

point_again : (p fs e : List ℕ) → IsPoint p fs → IsEnd e → (prefix_len is_ascii_digit (p ++ e) ≡ 0) × (places (p ++ e) ≡ fs) × (after_places (p ++ e) ≡ e)
unfolding places after_places
point_again p fs e NoPoint end = end
point_again p fs e (Point ds h) end = (refl, front_again ds e h end.0, after_again ds e h end.0)

number_no_sign : (ws p fs rest : List ℕ) → AllDigits 10 ws → IsPoint p fs → 0 < length ws + length fs → HasNoSign (ws ++ (p ++ rest))
number_no_sign [] p fs rest w NoPoint some = absurd (omega (arith, some))
number_no_sign [] p fs rest w (Point ds h) some = (refl, refl)
number_no_sign (d ∷ ws) p fs rest w h some = let t = digit_no_sign d w.0 in (t.0, t.1)

-- ---- the exponent

all_in_front : (ds : List ℕ) → prefix_len is_ascii_digit ds ≡ length ds → AllDigits 10 ds
all_in_front ds e = let whole : front_digits ds ≡ ds = ap (λ (k : ℕ). take k ds) e ∙ take-length ds in subst (AllDigits 10) whole (front_digits_are ds)

three_tests : (a b c : Bool) → (a && b && c) ≡ true → (a ≡ true) × (b ≡ true) × (c ≡ true)
three_tests a b c h = grind arith

short_bounds : (len : ℕ) → ltb 0 len ≡ true → leb len 3 ≡ true → (0 < len) × (len ≤ 3)
short_bounds len a b = (grind (arith, nat_tests), grind (arith, nat_tests))

short_takes : (ds : List ℕ) (x : ℕ) → short_number ds ≡ Some x → AllDigits 10 ds × (0 < length ds) × (length ds ≤ 3) × (digits_value 10 ds ≡ x)
unfolding short_number
short_takes ds x e =
    let test = ltb 0 (length ds) && leb (length ds) 3 && eqb (prefix_len is_ascii_digit ds) (length ds) in
    let g = cond_some test (digits_value 10 ds) x e in
    let t = three_tests (ltb 0 (length ds)) (leb (length ds) 3) (eqb (prefix_len is_ascii_digit ds) (length ds)) g.0 in
    let b = short_bounds (length ds) t.0 t.1 in
    (all_in_front ds (eqb-true (prefix_len is_ascii_digit ds) (length ds) t.2), b.0, b.1, g.1)

tests_hold : (len n : ℕ) → 0 < len → len ≤ 3 → n ≡ len → (ltb 0 len && leb len 3 && eqb n len) ≡ true
tests_hold len n a b e = grind (arith, nat_tests)

short_again : (ds : List ℕ) → AllDigits 10 ds → 0 < length ds → length ds ≤ 3 → short_number ds ≡ Some (digits_value 10 ds)
unfolding short_number
short_again ds h some short =
    let all : prefix_len is_ascii_digit ds ≡ length ds = ap (λ (t : List ℕ). prefix_len is_ascii_digit t) (sym (append-nil ds)) ∙ prefix_of_digits ds [] h refl in
    if_true (ltb 0 (length ds) && leb (length ds) 3 && eqb (prefix_len is_ascii_digit ds) (length ds)) (Some (digits_value 10 ds)) None (tests_hold (length ds) (prefix_len is_ascii_digit ds) some short all)

letter_means : (c : ℕ) → (eqb c 69 || eqb c 101) ≡ true → (c ≡ 69) ⊎ (c ≡ 101)
letter_means c h = grind (arith, nat_tests)

exponent_takes : (text : List ℕ) (down : Bool) (x : ℕ) → exponent text ≡ Some (down, x) → IsExponent text down x
unfolding exponent
exponent_takes [] down x e =
    let parts = some_pair_parts _ _ _ _ e in
    let P : Bool → Type 0 = λ b. IsExponent [] b x in
    let Q : ℕ → Type 0 = λ k. IsExponent [] false k in
    subst P parts.0 (subst Q parts.1 NoExponent)
exponent_takes (c ∷ rest) down x e =
    let ds = unsigned rest in
    let g = cond_some' (eqb c 69 || eqb c 101) (option_map (λ x. (is_minus rest, x)) (short_number ds)) (down, x) e in
    let m = map_some (λ (x : ℕ). (is_minus rest, x)) (short_number ds) (down, x) g.1 in
    let s = short_takes ds m.0 m.1 in
    let sign = sign_of rest in
    let P : Bool × ℕ → Type 0 = λ p. IsExponent (c ∷ rest) p.0 p.1 in
    let Q : List ℕ → Type 0 = λ t. IsExponent (c ∷ t) (is_minus rest) (digits_value 10 ds) in
    let R : ℕ → Type 0 = λ k. IsExponent (c ∷ rest) (is_minus rest) k in
    subst P m.2 (subst R s.3 (subst Q (sym sign.2) (Exponent c sign.0 (is_minus rest) ds (letter_means c g.0) sign.1 s.0 s.1 s.2)))
  where
    cond_some' : {A : Type 0} (b : Bool) (x : Option A) (z : A) → cond b x None ≡ Some z → (b ≡ true) × (x ≡ Some z)
    cond_some' true x z e = (refl, e)
    cond_some' false x z e = absurd cc

exponent_number : (text ds : List ℕ) (down : Bool) → unsigned text ≡ ds → is_minus text ≡ down → AllDigits 10 ds → 0 < length ds → length ds ≤ 3 → option_map {U = Bool × ℕ} (λ (x : ℕ). (is_minus text, x)) (short_number (unsigned text)) ≡ Some (down, digits_value 10 ds)
exponent_number text ds down u m are some short =
    ap (λ (b : Bool). option_map {U = Bool × ℕ} (λ (x : ℕ). (b, x)) (short_number (unsigned text))) m ∙ ap (λ (t : List ℕ). option_map {U = Bool × ℕ} (λ (x : ℕ). (down, x)) (short_number t)) u ∙ ap (option_map {U = Bool × ℕ} (λ (x : ℕ). (down, x))) (short_again ds are some short)

exponent_again : (text : List ℕ) (down : Bool) (x : ℕ) → IsExponent text down x → (exponent text ≡ Some (down, x)) × IsEnd text
unfolding exponent places after_places
exponent_again text down x NoExponent = (refl, (refl, refl, refl))
exponent_again text down x (Exponent letter sign lower ds is_letter is_sign are some short) =
    let u = unsigned_again sign ds lower is_sign (subst HasNoSign (append-nil ds) (digits_no_sign ds [] are some)) in
    let number = exponent_number (sign ++ ds) ds lower u.0 u.1 are some short in
    let P : ℕ → Type 0 = λ c. (exponent (c ∷ sign ++ ds) ≡ Some (lower, digits_value 10 ds)) × IsEnd (c ∷ sign ++ ds) in
    elim is_letter [
      | inl e ↦ subst P (sym e) (number, (refl, refl, refl))
      | inr e ↦ subst P (sym e) (number, (refl, refl, refl))
    ]

-- ---- the whole text

regroup : (s w p e : List ℕ) → s ++ (w ++ (p ++ e)) ≡ s ++ w ++ p ++ e
regroup s w p e = simp append_assoc

-- what a text is read as, if it is a decimal
abbrev pub number_of : List ℕ → ℕ
number_of text = digits_value 10 (front_digits (unsigned text) ++ places (after_digits (unsigned text)))

abbrev pub worth_at : List ℕ → Bool → ℕ → Worth
worth_at text down x = worth (is_minus text) (number_of text) (billionths (number_of text) (length (places (after_digits (unsigned text)))) down x)

-- what is read is what the text is worth
pub decimal_takes : (text : List ℕ) (down : Bool) (x : ℕ) → 0 < length (front_digits (unsigned text)) + length (places (after_digits (unsigned text)))
    → exponent (after_places (after_digits (unsigned text))) ≡ Some (down, x) → IsDecimal text (worth_at text down x)
decimal_takes text down x some e =
    let s = sign_of text in
    let u = unsigned text in
    let p = point_of (after_digits u) in
    let rest = after_places (after_digits u) in
    record {
      negative = is_minus text;
      sign = s.0;
      whole = front_digits u;
      point = p.0;
      fraction = places (after_digits u);
      exponent = rest;
      down = down;
      x = x;
      shape = s.2 ∙ ap (λ (t : List ℕ). s.0 ++ t) (front_and_rest u ∙ ap (λ (t : List ℕ). front_digits u ++ t) p.2) ∙ regroup s.0 (front_digits u) p.0 rest;
      is_sign = s.1;
      is_whole = front_digits_are u;
      is_point = p.1;
      some_digit = some;
      is_exponent = exponent_takes rest down x e;
      is_worth = refl;
    }

-- what is read from a decimal
pub record IsRead (text : List ℕ) (w : Worth) : Type 0 where
  pub down : Bool
  pub x : ℕ
  pub some : 0 < length (front_digits (unsigned text)) + length (places (after_digits (unsigned text)))
  pub exponent_is : exponent (after_places (after_digits (unsigned text))) ≡ Some (down, x)
  pub worth_is : w ≡ worth_at text down x

pub decimal_again : (text : List ℕ) (w : Worth) → IsDecimal text w → IsRead text w
decimal_again text w d =
    let e = exponent_again d.exponent d.down d.x d.is_exponent in
    let p = point_again d.point d.fraction d.exponent d.is_point e.1 in
    let whole = d.shape ∙ sym (regroup d.sign d.whole d.point d.exponent) in
    let u = unsigned_again d.sign (d.whole ++ (d.point ++ d.exponent)) d.negative d.is_sign (number_no_sign d.whole d.point d.fraction d.exponent d.is_whole d.is_point d.some_digit) in
    let number : unsigned text ≡ d.whole ++ (d.point ++ d.exponent) = ap unsigned whole ∙ u.0 in
    let minus : is_minus text ≡ d.negative = ap is_minus whole ∙ u.1 in
    let front : front_digits (unsigned text) ≡ d.whole = ap front_digits number ∙ front_again d.whole (d.point ++ d.exponent) d.is_whole p.0 in
    let after : after_digits (unsigned text) ≡ d.point ++ d.exponent = ap after_digits number ∙ after_again d.whole (d.point ++ d.exponent) d.is_whole p.0 in
    let fraction : places (after_digits (unsigned text)) ≡ d.fraction = ap places after ∙ p.1 in
    let rest : exponent (after_places (after_digits (unsigned text))) ≡ Some (d.down, d.x) = ap (λ (t : List ℕ). exponent (after_places t)) after ∙ ap exponent p.2 ∙ e.0 in
    record {
      down = d.down;
      x = d.x;
      some = rw (front, fraction) d.some_digit;
      exponent_is = rest;
      worth_is = rw (minus, front, fraction) d.is_worth;
    }

no_digit : (text : List ℕ) → length (front_digits (unsigned text)) + length (places (after_digits (unsigned text))) ≡ 0 → IsNoDecimal text
no_digit text none w d = omega (arith, none, (decimal_again text w d).some)

no_exponent : (text : List ℕ) → exponent (after_places (after_digits (unsigned text))) ≡ None → IsNoDecimal text
no_exponent text none w d = let is = (decimal_again text w d).exponent_is in cc

-- ---- what a reader found

-- the digits before and after the point, and what follows them
pub record IsSplit (text whole fraction rest : List ℕ) : Type 0 where
  pub whole_is : whole ≡ front_digits (unsigned text)
  pub fraction_is : fraction ≡ places (after_digits (unsigned text))
  pub rest_is : rest ≡ after_places (after_digits (unsigned text))

pub split_of : (text bytes whole fraction rest : List ℕ) → bytes ≡ text → whole ≡ front_digits (unsigned bytes) → fraction ≡ places (after_digits (unsigned bytes)) → rest ≡ after_places (after_digits (unsigned bytes)) → IsSplit text whole fraction rest
split_of text bytes whole fraction rest e w f r =
    record { whole_is = rw e at w; fraction_is = rw e at f; rest_is = rw e at r }

pub without_digit : (text whole fraction rest : List ℕ) → IsSplit text whole fraction rest → length whole + length fraction ≡ 0 → IsNoDecimal text
without_digit text whole fraction rest s none = no_digit text (rw (s.whole_is, s.fraction_is) at none)

pub without_exponent : (text whole fraction rest : List ℕ) → IsSplit text whole fraction rest → exponent rest ≡ None → IsNoDecimal text
without_exponent text whole fraction rest s none = no_exponent text (rw s.rest_is at none)

split_worth : (text whole fraction rest : List ℕ) (down : Bool) (x : ℕ) → IsSplit text whole fraction rest → ¬ (length whole + length fraction ≡ 0) → exponent rest ≡ Some (down, x)
    → IsDecimal text (worth (is_minus text) (digits_value 10 (whole ++ fraction)) (billionths (digits_value 10 (whole ++ fraction)) (length fraction) down x))
split_worth text whole fraction rest down x s some e =
    let found : exponent (after_places (after_digits (unsigned text))) ≡ Some (down, x) = rw s.rest_is at e in
    let len : ¬ (length (front_digits (unsigned text)) + length (places (after_digits (unsigned text))) ≡ 0) = rw (s.whole_is, s.fraction_is) at some in
    rw (s.whole_is, s.fraction_is) (decimal_takes text down x (omega arith) found)

-- a text below 0, and a text of so many billionths
pub below_zero : (text whole fraction rest : List ℕ) (negative : Bool) (down : Bool) (x : ℕ) → IsSplit text whole fraction rest → ¬ (length whole + length fraction ≡ 0) → exponent rest ≡ Some (down, x)
    → negative ≡ is_minus text → (negative && ltb 0 (digits_value 10 (whole ++ fraction))) ≡ true → IsDecimal text BelowZero
below_zero text whole fraction rest negative down x s some e minus below =
    let n = digits_value 10 (whole ++ fraction) in
    subst (IsDecimal text) (if_true (is_minus text && ltb 0 n) BelowZero (Billionths (billionths n (length fraction) down x)) (rw minus at below)) (split_worth text whole fraction rest down x s some e)

pub so_many : (text whole fraction rest : List ℕ) (negative : Bool) (down : Bool) (x : ℕ) → IsSplit text whole fraction rest → ¬ (length whole + length fraction ≡ 0) → exponent rest ≡ Some (down, x)
    → negative ≡ is_minus text → (negative && ltb 0 (digits_value 10 (whole ++ fraction))) ≡ false → IsDecimal text (Billionths (billionths (digits_value 10 (whole ++ fraction)) (length fraction) down x))
so_many text whole fraction rest negative down x s some e minus below =
    let n = digits_value 10 (whole ++ fraction) in
    subst (IsDecimal text) (if_false (is_minus text && ltb 0 n) BelowZero (Billionths (billionths n (length fraction) down x)) (rw minus at below)) (split_worth text whole fraction rest down x s some e)

-- the value that was computed stops at a bound beyond the limit
pub in_limit : (text : List ℕ) (v r limit bound : ℕ) → IsDecimal text (Billionths v) → r ≡ min v bound → limit ≤ bound → r < limit → IsDecimal text (Billionths r) × (r < limit)
in_limit text v r limit bound d e room lt =
    let same : v ≡ r = omega arith in
    (subst (λ (k : ℕ). IsDecimal text (Billionths k)) same d, lt)

pub past_limit : (text : List ℕ) (v r limit bound : ℕ) → IsDecimal text (Billionths v) → r ≡ min v bound → limit ≤ r → IsOutside limit text
past_limit text v r limit bound d e ge = inr (v, d, omega arith)

-- ---- one worth, or none

pub one_worth : (text : List ℕ) (w v : Worth) → IsDecimal text w → IsDecimal text v → w ≡ v
one_worth text w v d f =
    let a = decimal_again text w d in
    let b = decimal_again text v f in
    let parts = some_pair_parts _ _ _ _ (sym a.exponent_is ∙ b.exponent_is) in
    a.worth_is ∙ ap (λ (t : Bool). worth_at text t a.x) parts.0 ∙ ap (λ (k : ℕ). worth_at text b.down k) parts.1 ∙ sym b.worth_is

pub same_number : (v w : ℕ) → Billionths v ≡ Billionths w → v ≡ w
same_number v w e = cc

-- a number below the limit is never refused
pub not_refused : (limit v : ℕ) (text : List ℕ) (r : Result ℕ DecimalError) → ReadsDecimal limit text r → None ≡ result_ok r → v < limit → IsDecimal text (Billionths v) → ⊥
not_refused limit v text (Ok x) reads e lt d = absurd cc
not_refused limit v text (Err InvalidText) reads e lt d = reads (Billionths v) d
not_refused limit v text (Err OutOfRange) (inl b) e lt d = let z = one_worth text BelowZero (Billionths v) b d in absurd cc
not_refused limit v text (Err OutOfRange) (inr (w, b, ge)) e lt d = omega (arith, same_number w v (one_worth text (Billionths w) (Billionths v) b d))

pub read_number : (limit v x : ℕ) (text : List ℕ) (r : Result ℕ DecimalError) → ReadsDecimal limit text r → Some x ≡ result_ok r → IsDecimal text (Billionths v) → x ≡ v
read_number limit v x text (Ok y) reads e d =
    let same : x ≡ y = cc in same ∙ same_number y v (one_worth text (Billionths y) (Billionths v) reads.0 d)
read_number limit v x text (Err y) reads e d = absurd cc

found_exponent : (text : List ℕ) (e : Option (Bool × ℕ)) → exponent (after_places (after_digits (unsigned text))) ≡ e → 0 < length (front_digits (unsigned text)) + length (places (after_digits (unsigned text)))
    → ((w : Worth) × IsDecimal text w) ⊎ IsNoDecimal text
found_exponent text None e some = inr (no_exponent text e)
found_exponent text (Some p) e some = inl (worth_at text p.0 p.1, decimal_takes text p.0 p.1 some e)

pub is_decided : (text : List ℕ) → ((w : Worth) × IsDecimal text w) ⊎ IsNoDecimal text
is_decided text =
    let len = length (front_digits (unsigned text)) + length (places (after_digits (unsigned text))) in
    elim (cases_lt 0 len) [
      | inl lt ↦ found_exponent text (exponent (after_places (after_digits (unsigned text)))) refl lt
      | inr le ↦ inr (no_digit text (omega arith))
    ]
