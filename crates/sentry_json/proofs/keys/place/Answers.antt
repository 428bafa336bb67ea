use Rattle.std.proofs.Common.{◌≡◌, inl, inr, sym, ◌∙◌, arith, subst, map}
use Rattle.std.proofs.lemmas.Bool.{cases_lt}
use Rattle.std.proofs.lemmas.List.{length-map}
use Rattle.sentry_json.specs.Keys.{StandsAt}
use Rattle.sentry_json.proofs.Beside.{nowhere, stands_at, stands_within, not_at}
use Rattle.sentry_json.proofs.keys.place.Goals as goal

pub loop-i-init : goal.loop-i-init
loop-i-init c k lt at = absurd (omega (arith, lt))

pub returns-then-is_same-clause-found : goal.returns-then-is_same-clause-found
returns-then-is_same-clause-found c = stands_at c.args.key.now c.args.keys.now c.loop-i.i _ (omega arith) (sym c.is_same.ensures ∙ c.if-is_same.true)

pub loop-i-preserved : goal.loop-i-preserved
loop-i-preserved c k lt at =
    elim (cases_lt k c.loop-i.i) [
      | inl below ↦ c.loop-i.invariant k below at
      | inr above ↦ let here : k ≡ c.loop-i.i = omega arith in
          not_at c.args.key.now c.args.keys.now c.loop-i.i _ (omega arith) (sym c.is_same.ensures ∙ c.if-is_same.false) (subst (λ n. StandsAt c.args.key.now n (map (λ x. x.now) c.args.keys.now)) here at)
    ]

pub returns-clause-none : goal.returns-clause-none
returns-clause-none c =
    let ks = map (λ k. k.now) c.args.keys.now in
    nowhere c.args.key.now ks (λ i at. c.loop-i.invariant i (omega (arith, stands_within c.args.key.now i ks at, length-map c.args.keys.now (λ k. k.now))) at)
