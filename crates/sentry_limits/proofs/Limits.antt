-- A header states one list of limits, and the latest end is held.
use Rattle.std.proofs.Common.{◌≡◌, ℕ, zero, suc, ◌+◌, ◌*◌, ◌^◌, ◌≤◌, ◌⊎◌, inl, inr, max, Bool, true, false, cond, List, [], ◌∷◌, Option, Some, None, unwrap_or, refl, sym, ap, ap₂, ◌∙◌, subst, arith}
use Rattle.std.specs.List.{AllZip, Contains}
use Rattle.std.proofs.lemmas.Bool.{cases_lt}
use Rattle.sentry_moments.specs.declared.moment.Moment.{Moment}
use Rattle.sentry_moments.proofs.SamplingSpellings.{one_number}
use Rattle.sentry_reports.specs.declared.category.Category.{Category}
use Rattle.sentry_limits.specs.RetryAfter.{IsRetryAfter, ReadsDelay, end_after, rounded_up}
use Rattle.sentry_limits.specs.RateLimits.{IsLimit, Limit, is_named, latest, raised}

-- ---- one list of limits

same_delay : (text : List ℕ) (a b : Option ℕ) → ReadsDelay text a → ReadsDelay text b → a ≡ b
same_delay text None None x y = refl
same_delay text None (Some n) x (t, g, h, k) = absurd (x t g h)
same_delay text (Some m) None (s, f, d, e) y = absurd (y s f d)
same_delay text (Some m) (Some n) (s, f, d, e) (t, g, h, k) =
    let same = one_number text (s * 10 ^ 9 + f) (t * 10 ^ 9 + g) d.1 h.1 in
    let a = d.0.1 in
    let b = h.0.1 in
    let secs : s ≡ t = omega (arith, same, a, b) in
    let nanos : f ≡ g = omega (arith, same, a, b) in
    ap Some (e ∙ ap₂ rounded_up secs nanos ∙ sym k)

same_seconds : (text : List ℕ) (m n : ℕ) → IsRetryAfter text m → IsRetryAfter text n → m ≡ n
same_seconds text m n (a, r, e) (b, q, k) = e ∙ ap (λ (o : Option ℕ). unwrap_or o 60) (same_delay text a b r q) ∙ sym k

unfoldable make : ℕ → List (Option Category) → Limit
make seconds names = record { seconds = seconds; names = names }

same_limit : (text : List ℕ) (a b : Limit) → IsLimit text a → IsLimit text b → a ≡ b
unfolding make
same_limit text a b x y = ap₂ make (same_seconds _ a.seconds b.seconds x.seconds y.seconds) (x.names ∙ sym y.names)

pub same_limits : (texts : List (List ℕ)) (limits others : List Limit) → AllZip IsLimit texts limits → AllZip IsLimit texts others → limits ≡ others
same_limits [] [] [] x y = refl
same_limits [] [] (b ∷ bs) x y = absurd y
same_limits [] (a ∷ ls) bs x y = absurd x
same_limits (text ∷ texts) [] bs x y = absurd x
same_limits (text ∷ texts) (a ∷ ls) [] x y = absurd y
same_limits (text ∷ texts) (a ∷ ls) (b ∷ bs) x y = ap₂ (λ (l : Limit) (rest : List Limit). l ∷ rest) (same_limit text a b x.0 y.0) (same_limits texts ls bs x.1 y.1)

-- ---- the latest end

no_earlier : (b : Bool) (held end : ℕ) → held ≤ cond b (max held end) held
no_earlier true held end = omega arith
no_earlier false held end = omega arith

one_of_both : (b : Bool) (held end : ℕ) → (cond b (max held end) held ≡ held) ⊎ ((b ≡ true) × (cond b (max held end) held ≡ end))
one_of_both false held end = inl refl
one_of_both true held end = elim (cases_lt held end) [
  | inl lt ↦ inr (refl, omega arith)
  | inr ge ↦ inl (omega arith)
]

module _ (now : Moment) (name : Option Category) where
  pub latest_held : (limits : List Limit) (held : ℕ) → held ≤ latest now name limits held
  latest_held [] held = omega arith
  latest_held (l ∷ ls) held =
      omega (arith, latest_held ls (raised name l.names (end_after now l.seconds) held), no_earlier (is_named name l.names) held (end_after now l.seconds))

  named_end : (limit : Limit) (held : ℕ) → is_named name limit.names ≡ true → end_after now limit.seconds ≤ raised name limit.names (end_after now limit.seconds) held
  named_end limit held named =
      let same = ap (λ b. cond b (max held (end_after now limit.seconds)) held) named in
      omega (arith, same)

  pub latest_each : (limits : List Limit) (held : ℕ) (limit : Limit) → Contains limits limit → is_named name limit.names ≡ true → end_after now limit.seconds ≤ latest now name limits held
  latest_each [] held limit (k, h, e) named = absurd (omega arith)
  latest_each (l ∷ ls) held limit (zero, h, e) named =
      let first = subst (λ (x : Limit). is_named name x.names ≡ true) (sym e) named in
      let a = latest_held ls (raised name l.names (end_after now l.seconds) held) in
      let b = named_end l held first in
      let c = ap (λ (x : Limit). end_after now x.seconds) e in
      omega (arith, a, b, c)
  latest_each (l ∷ ls) held limit (suc k, h, e) named = latest_each ls (raised name l.names (end_after now l.seconds) held) limit (k, omega arith, e) named

  abbrev HasEnd : List Limit → ℕ → ℕ → Type 0
  HasEnd limits held end = (end ≡ held) ⊎ ((limit : Limit) × Contains limits limit × (is_named name limit.names ≡ true) × (end ≡ end_after now limit.seconds))

  first_end : (l : Limit) (ls : List Limit) (held end : ℕ) → end ≡ raised name l.names (end_after now l.seconds) held → HasEnd (l ∷ ls) held end
  first_end l ls held end e = elim (one_of_both (is_named name l.names) held (end_after now l.seconds)) [
    | inl same ↦ inl (e ∙ same)
    | inr new ↦ inr (l, (0, omega arith, refl), new.0, e ∙ new.1)
  ]

  pub latest_one : (limits : List Limit) (held : ℕ) → HasEnd limits held (latest now name limits held)
  latest_one [] held = inl refl
  latest_one (l ∷ ls) held = elim (latest_one ls (raised name l.names (end_after now l.seconds) held)) [
    | inl same ↦ first_end l ls held (latest now name (l ∷ ls) held) same
    | inr (limit, (k, h, e), named, is) ↦ inr (limit, (suc k, omega arith, e), named, is)
  ]
