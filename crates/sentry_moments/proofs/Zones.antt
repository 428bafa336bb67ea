-- Offsets that texts name.
use Rattle.std.proofs.Common.{◌≡◌, ℕ, ◌+◌, ◌*◌, ◌<◌, ◌⊎◌, inl, inr, cond, eqb, List, [], ◌∷◌, ◌++◌, length, get_or, drop, refl, sym, ap, subst, ◌∙◌, arith, ℤ, pos, neg_ℤ, ◌-ℤ◌}
use Rattle.std.proofs.lemmas.Bool.Decides.{Decides-and, Decides-or, Decides-ltb}
use Rattle.std.proofs.lemmas.Int.{ints}
use lib.Pointwise.{bytes_decides}
use Rattle.sentry_moments.specs.Digits.{digits}
use Rattle.sentry_moments.specs.Rfc3339.{IsZone, Upper, Lower, Ahead, Behind}
use Rattle.sentry_moments.specs.Rfc3339Parts.{HasDigit, IsHourAndMinute, number_at}
use Rattle.sentry_moments.proofs.DateAndTimes.{items, pair, below_60, number_again, or_not}

-- ---- what a sign tells

pub letter : (t : List ℕ) → length t ≡ 1 → (get_or t 0 0 ≡ 90) ⊎ (get_or t 0 0 ≡ 122) → IsZone t (pos 0)
letter [] long is = absurd cc
letter (c ∷ []) long (inl e) = subst (λ b. IsZone (b ∷ []) (pos 0)) (sym e) Upper
letter (c ∷ []) long (inr e) = subst (λ b. IsZone (b ∷ []) (pos 0)) (sym e) Lower
letter (c ∷ d ∷ cs) long is = absurd (omega (arith, long))

negated : (n : ℕ) → neg_ℤ (pos n) ≡ pos 0 -ℤ pos n
negated n = omega (arith, ints)

opposite : (cs : List ℕ) (n : ℤ) → IsZone (43 ∷ cs) n → IsZone (45 ∷ cs) (pos 0 -ℤ n)
opposite cs n (Ahead h m a b) = subst (IsZone (45 ∷ digits 2 h ++ 58 ∷ digits 2 m)) (negated (h * 3_600 + m * 60)) (Behind h m a b)

pub behind : (t cs : List ℕ) (n : ℤ) → get_or t 0 0 ≡ 45 → cs ≡ drop 1 t → IsZone (43 ∷ cs) n → IsZone t (pos 0 -ℤ n)
behind [] cs n sign rest h = absurd cc
behind (b ∷ bs) cs n sign rest h = rw (sign, ← rest) (opposite cs n h)

opposite_of : (cs : List ℕ) (n : ℤ) → IsZone (45 ∷ cs) n → (k : ℤ) × IsZone (43 ∷ cs) k
opposite_of cs n (Behind h m a b) = (pos (h * 3_600 + m * 60), Ahead h m a b)

pub ahead : (t cs : List ℕ) (n : ℤ) → get_or t 0 0 ≡ 45 → cs ≡ drop 1 t → IsZone t n → (k : ℤ) × IsZone (43 ∷ cs) k
ahead [] cs n sign rest h = absurd cc
ahead (b ∷ bs) cs n sign rest h = rw rest (opposite_of bs n (subst (λ c. IsZone (c ∷ bs) n) sign h))

-- ---- one offset, or none

-- the sign, and the hour and the minute that follow it
abbrev IsSigned : ℕ → List ℕ → Type 0
IsSigned sign t = (t ≡ sign ∷ digits 2 (number_at t 1) ++ 58 ∷ digits 2 (number_at t 4)) × ((number_at t 1 < 24) × (number_at t 4 < 60))

abbrev ZoneForm : List ℕ → Type 0
ZoneForm t = ((t ≡ 90 ∷ []) ⊎ (t ≡ 122 ∷ [])) ⊎ (IsSigned 43 t ⊎ IsSigned 45 t)

abbrev size_of : List ℕ → ℕ
size_of t = number_at t 1 * 3_600 + number_at t 4 * 60

abbrev offset_of : List ℕ → ℤ
offset_of t = cond (eqb (get_or t 0 0) 43) (pos (size_of t)) (cond (eqb (get_or t 0 0) 45) (neg_ℤ (pos (size_of t))) (pos 0))

signed : (sign h m : ℕ) → h < 24 → m < 60 → IsSigned sign (sign ∷ digits 2 h ++ 58 ∷ digits 2 m) × (h * 3_600 + m * 60 ≡ size_of (sign ∷ digits 2 h ++ 58 ∷ digits 2 m))
unfolding digits
signed sign h m a b = rw (number_again h (omega (arith, a)), number_again m (omega (arith, b))) ((refl, (a, b)), refl)

zone_parts : (t : List ℕ) (n : ℤ) → IsZone t n → (ZoneForm t) × (n ≡ offset_of t)
zone_parts t n Upper = (inl (inl refl), refl)
zone_parts t n Lower = (inl (inr refl), refl)
zone_parts t n (Ahead h m a b) = let is = signed 43 h m a b in (inr (inl is.0), ap pos is.1)
zone_parts t n (Behind h m a b) = let is = signed 45 h m a b in (inr (inr is.0), ap (λ k. neg_ℤ (pos k)) is.1)

pub one_zone : (t : List ℕ) (n k : ℤ) → IsZone t n → IsZone t k → n ≡ k
one_zone t n k a b = (zone_parts t n a).1 ∙ sym (zone_parts t k b).1

zoned : (t : List ℕ) → ZoneForm t → (n : ℤ) × IsZone t n
zoned t (inl (inl e)) = (pos 0, rw e Upper)
zoned t (inl (inr e)) = (pos 0, rw e Lower)
zoned t (inr (inl h)) = (pos (size_of t), subst (λ l. IsZone l (pos (size_of t))) (sym h.0) (Ahead (number_at t 1) (number_at t 4) h.1.0 h.1.1))
zoned t (inr (inr h)) = (neg_ℤ (pos (size_of t)), subst (λ l. IsZone l (neg_ℤ (pos (size_of t)))) (sym h.0) (Behind (number_at t 1) (number_at t 4) h.1.0 h.1.1))

pub zone_or_not : (t : List ℕ) → ((n : ℤ) × IsZone t n) ⊎ ((n : ℤ) → IsZone t n → ⊥)
zone_or_not t =
    let decides_signed = λ (sign : ℕ). Decides-and _ _ (bytes_decides t (sign ∷ digits 2 (number_at t 1) ++ 58 ∷ digits 2 (number_at t 4))) (Decides-and _ _ (Decides-ltb (number_at t 1) 24) (Decides-ltb (number_at t 4) 60)) in
    elim (or_not _ (Decides-or _ _ (Decides-or _ _ (bytes_decides t (90 ∷ [])) (bytes_decides t (122 ∷ []))) (Decides-or _ _ (decides_signed 43) (decides_signed 45)))) [
      | inl is ↦ inl (zoned t is)
      | inr not ↦ inr (λ n h. not (zone_parts t n h).0)
    ]

-- ---- an hour and a minute

pub offset_is : (t : List ℕ) → IsHourAndMinute t → number_at t 0 < 24 → IsZone (43 ∷ t) (pos (number_at t 0 * 3_600 + number_at t 3 * 60))
offset_is t h small =
    let low : HasDigit t 0 = (h.hour.0.0, omega (arith, h.hour.0.1)) in
    let hour = pair t 0 low h.hour.1 in
    let minute = pair t 3 (below_60 (get_or t 3 0) h.minute.1) h.minute.2 in
    let whole : t ≡ digits 2 (number_at t 0) ++ 58 ∷ digits 2 (number_at t 3) = items t 5 h.long ∙ rw (hour, minute, h.minute.0) refl in
    subst (λ (l : List ℕ). IsZone (43 ∷ l) (pos (number_at t 0 * 3_600 + number_at t 3 * 60))) (sym whole) (Ahead (number_at t 0) (number_at t 3) small (omega (arith, h.minute)))

pub offset_form : (t : List ℕ) (n : ℤ) → IsZone (43 ∷ t) n → IsHourAndMinute t × (number_at t 0 < 24)
unfolding digits
offset_form t n (Ahead hour minute h m) = (grind arith, omega (arith, h))
