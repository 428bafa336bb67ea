-- The digits that a text begins with.
use Rattle.std.proofs.Common.{◌≡◌, ℕ, suc, ◌+◌, ◌<◌, Bool, true, false, cond, List, [], ◌∷◌, ◌++◌, length, take, refl, sym, ap, ◌∙◌, arith}
use Rattle.std.specs.Char.{is_ascii_digit, digit_value}
use Rattle.std.specs.List.{prefix_len}
use Rattle.std.specs.Str.Parse.{AllDigits}
use Rattle.std.proofs.lemmas.Bool.Decides.{nat_tests}
use Rattle.std.proofs.lemmas.List.{take-append-drop, take_at, drop_at}
use Rattle.std.proofs.lemmas.Str.Parse.{digit_from_value}
use Rattle.sentry_moments.specs.Digits.{front_digits, after_digits}
use Rattle.sentry_moments.proofs.Choices.{if_true}

pub digit_means : (c : ℕ) → is_ascii_digit c ≡ true → digit_value c < 10
digit_means c h = grind (arith, nat_tests)

digit_holds : (c : ℕ) → digit_value c < 10 → is_ascii_digit c ≡ true
digit_holds c h =
    let range = digit_from_value c h in grind (arith, nat_tests)

one_more : (n : ℕ) → 1 + n ≡ suc n
one_more n = omega arith

front_step : (b : Bool) (c n : ℕ) (cs : List ℕ) → (b ≡ true → digit_value c < 10) → AllDigits 10 (take n cs) → AllDigits 10 (take (cond b (1 + n) 0) (c ∷ cs))
front_step true c n cs h rest = rw (one_more n) (h refl, rest)
front_step false c n cs h rest = tt

pub front_digits_are : (text : List ℕ) → AllDigits 10 (front_digits text)
front_digits_are [] = tt
front_digits_are (c ∷ cs) = front_step (is_ascii_digit c) c (prefix_len is_ascii_digit cs) cs (digit_means c) (front_digits_are cs)

pub front_and_rest : (cs : List ℕ) → cs ≡ front_digits cs ++ after_digits cs
front_and_rest cs = sym (take-append-drop (prefix_len is_ascii_digit cs) cs)

pub prefix_of_digits : (ds rest : List ℕ) → AllDigits 10 ds → prefix_len is_ascii_digit rest ≡ 0 → prefix_len is_ascii_digit (ds ++ rest) ≡ length ds
prefix_of_digits [] rest h e = e
prefix_of_digits (d ∷ ds) rest h e =
    if_true (is_ascii_digit d) (1 + prefix_len is_ascii_digit (ds ++ rest)) 0 (digit_holds d h.0) ∙ ap (λ (n : ℕ). 1 + n) (prefix_of_digits ds rest h.1 e) ∙ one_more (length ds)

-- digits before what begins with none are the front
pub front_again : (ds rest : List ℕ) → AllDigits 10 ds → prefix_len is_ascii_digit rest ≡ 0 → front_digits (ds ++ rest) ≡ ds
front_again ds rest h e = take_at ds rest (prefix_len is_ascii_digit (ds ++ rest)) (sym (prefix_of_digits ds rest h e))

pub after_again : (ds rest : List ℕ) → AllDigits 10 ds → prefix_len is_ascii_digit rest ≡ 0 → after_digits (ds ++ rest) ≡ rest
after_again ds rest h e = drop_at ds rest (prefix_len is_ascii_digit (ds ++ rest)) (sym (prefix_of_digits ds rest h e))
