-- The nanoseconds of a fraction, digit by digit.
use Rattle.std.proofs.Common.{◌≡◌, ℕ, zero, suc, ◌+◌, ◌-◌, ◌*◌, ◌^◌, ◌<◌, ◌≤◌, true, List, [], ◌∷◌, ◌++◌, length, get_or, take, replicate, refl, sym, ap, ◌∙◌, arith, length-append}
use Rattle.std.specs.Char.{is_ascii_digit, digit_value}
use Rattle.std.specs.Str.Parse.{AllDigits, digits_value}
use Rattle.std.proofs.lemmas.List.{length-take-le, take_more, take-replicate, take-take, take-append-le, length-replicate}
use Rattle.std.proofs.Math.Seq.{take-append-add}
use Rattle.std.proofs.Math.Nat.{pow-suc}
use Rattle.std.proofs.lemmas.Int.Digits.{digits_value_push}
use Rattle.sentry_moments.specs.Rfc3339.{nanoseconds}
use Rattle.sentry_moments.proofs.Fronts.{digit_means}
use Rattle.sentry_moments.proofs.Shifts.{digits_append, all_digits_append}

zeros_value : (k : ℕ) → digits_value 10 (replicate k 48) ≡ 0
zeros_value zero = refl
zeros_value (suc k) = zeros_value k

nothing_more : (n : ℕ) → n + 0 ≡ n
nothing_more n = omega arith

-- fewer than nine digits are followed by zeros
padded : (ds : List ℕ) (k : ℕ) → length ds + k ≡ 9 → nanoseconds ds ≡ digits_value 10 ds * 10 ^ k
padded ds k e =
    let zeros : take k (replicate 9 48) ≡ replicate k 48 = take-replicate k 9 48 (omega arith) in
    let cut : take 9 (ds ++ replicate 9 48) ≡ ds ++ replicate k 48 =
    ap (λ (n : ℕ). take n (ds ++ replicate 9 48)) (sym e) ∙ take-append-add ds (replicate 9 48) k ∙ ap (λ (l : List ℕ). ds ++ l) zeros in
    ap (digits_value 10) cut ∙ digits_append ds (replicate k 48) ∙ rw (zeros_value k, length-replicate {A = ℕ} k 48) (nothing_more (digits_value 10 ds * 10 ^ k))

distributed : (v d w : ℕ) → (v * 10 + d) * w ≡ v * (w * 10) + d * w
distributed v d w = omega arith

one_more : (ds : List ℕ) (d k : ℕ) → length ds + k ≡ 8 → nanoseconds (ds ++ d ∷ []) ≡ nanoseconds ds + digit_value d * 10 ^ k
one_more ds d k e =
    let shorter = padded ds (suc k) (omega arith) in
    let longer = padded (ds ++ d ∷ []) k (omega (arith, length-append ds (d ∷ []))) in
    let pushed = digits_value_push 10 ds d in
    let power = pow-suc 10 k in
    rw (longer, shorter, pushed, power) (distributed (digits_value 10 ds) (digit_value d) (10 ^ k))

pub worth_is : (p : ℕ) → p < 9 → get_or (100_000_000 ∷ 10_000_000 ∷ 1_000_000 ∷ 100_000 ∷ 10_000 ∷ 1_000 ∷ 100 ∷ 10 ∷ 1 ∷ []) p 0 ≡ 10 ^ (8 - p)
worth_is zero h = refl
worth_is (suc zero) h = refl
worth_is (suc (suc zero)) h = refl
worth_is (suc (suc (suc zero))) h = refl
worth_is (suc (suc (suc (suc zero)))) h = refl
worth_is (suc (suc (suc (suc (suc zero))))) h = refl
worth_is (suc (suc (suc (suc (suc (suc zero)))))) h = refl
worth_is (suc (suc (suc (suc (suc (suc (suc zero))))))) h = refl
worth_is (suc (suc (suc (suc (suc (suc (suc (suc zero)))))))) h = refl
worth_is (suc (suc (suc (suc (suc (suc (suc (suc (suc n))))))))) h = absurd (omega arith)

-- what one more digit counts for
pub next_place : (t : List ℕ) (p : ℕ) → p < 9 → p < length t → nanoseconds (take (p + 1) t) ≡ nanoseconds (take p t) + digit_value (get_or t p 0) * 10 ^ (8 - p)
next_place t p h k =
    ap nanoseconds (take_more t p 0 k) ∙ one_more (take p t) (get_or t p 0) (8 - p) (omega (arith, length-take-le p t (omega arith)))

pub next_digits : (t : List ℕ) (p : ℕ) → p < length t → AllDigits 10 (take p t) → is_ascii_digit (get_or t p 0) ≡ true → AllDigits 10 (take (p + 1) t)
next_digits t p h before e =
    rw (take_more t p 0 h) (all_digits_append (take p t) (get_or t p 0 ∷ []) before (digit_means (get_or t p 0) e, tt))

-- nine digits are enough
pub nine_of : (t : List ℕ) (n : ℕ) → n ≤ length t → 9 ≤ n → nanoseconds (take 9 t) ≡ nanoseconds (take n t)
nine_of t n h k =
    let short = length-take-le 9 t (omega arith) in
    let long = length-take-le n t h in
    ap (digits_value 10) (take-append-le 9 (take 9 t) (replicate 9 48) (omega arith) ∙ take-take 9 9 t (omega arith) ∙ sym (take-take 9 n t k) ∙ sym (take-append-le 9 (take n t) (replicate 9 48) (omega arith)))
