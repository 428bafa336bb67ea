-- Bytes that are appended: what stays, and what room they take.
use Rattle.std.proofs.Common.{◌≡◌, ◌+◌, ◌/◌, ◌%◌, ◌<◌, ◌≤◌, ℕ, zero, suc, Bool, true, false, cond, List, [], ◌∷◌, ◌++◌, nat_lt, take, length, ap, ◌∙◌, arith, lit≤, length-append}
use Rattle.std.proofs.lemmas.List.{take-append-le}
use Rattle.std.specs.Char.{digit_char}
use Rattle.json.specs.Print.{escape_letter, escape_byte}

taken_within : (n : ℕ) (xs : List ℕ) → length (take n xs) ≡ n → n ≤ length xs
taken_within zero xs h = omega arith
taken_within (suc n) [] h = absurd (omega (arith, h))
taken_within (suc n) (x ∷ xs) h = omega (arith, taken_within n xs (omega (arith, h)))

pub front_stays : (front old new more : List ℕ) → take (length front) old ≡ front → new ≡ old ++ more → take (length front) new ≡ front
front_stays front old new more before appended =
    ap (take (length front)) appended ∙ take-append-le (length front) old more (taken_within (length front) old (ap length before)) ∙ before

-- the whole of what counts and what is spare doesn't shrink
pub capacity_stays : (old new more : List ℕ) (was is : ℕ) → new ≡ old ++ more → was ≤ is + length more → length old + was ≤ length new + is
capacity_stays old new more was is appended room = omega (arith, ap length appended, length-append old more)

-- what has no room for its next part has none for the whole
pub no_room : (old now part rest whole : List ℕ) (was is : ℕ) → now ++ (part ++ rest) ≡ old ++ whole → length old + was ≤ length now + is → is < length part → was < length whole
no_room old now part rest whole was is same capacity missing =
    omega (arith, ap length same, length-append now (part ++ rest), length-append part rest, length-append old whole)

pub comma_room : (comma : Bool) (text : List ℕ) → length (cond comma (44 ∷ []) [] ++ text) ≤ length text + 1
comma_room true text = omega arith
comma_room false text = omega arith

of_choice : (a b : Bool) (xs ys zs : List ℕ) → length xs ≤ 6 → length ys ≤ 6 → length zs ≤ 6 → length (cond a xs (cond b ys zs)) ≤ 6
of_choice true b xs ys zs x y z = x
of_choice false true xs ys zs x y z = y
of_choice false false xs ys zs x y z = z

pub escape_short : (x : ℕ) → length (escape_byte x) ≤ 6
unfolding escape_byte
escape_short x =
    let long = 92 ∷ 117 ∷ 48 ∷ 48 ∷ digit_char (x / 16) ∷ digit_char (x % 16) ∷ [] in
    of_choice (nat_lt 0 (escape_letter x)) (nat_lt x 32) (92 ∷ escape_letter x ∷ []) long (x ∷ []) (lit≤ tt) (lit≤ tt) (lit≤ tt)
