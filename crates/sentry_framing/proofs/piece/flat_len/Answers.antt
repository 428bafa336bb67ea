use Rattle.std.proofs.Common.{◌≡◌, ◌%◌, ◌∷◌, length, ap, ◌∙◌, sym, arith}
use Rattle.std.proofs.lemmas.Bool.{eq-eqb}
use Rattle.sentry_framing.proofs.Flat.{all_passed, few_passed, flat_passed, none_passed, other_passed, quote_passed, stop_passed, stop_within}
use Rattle.sentry_framing.proofs.Scan.{found}
use Rattle.sentry_framing.proofs.piece.flat_len.Goals as goal
use Rattle.sentry_framing.proofs.piece.flat_len.Goals.{else-inside-end-eq34, else-loop-end-test, then-inside-end-eq34, then-loop-end-test+then-found-ne0}

pub loop-end-init : goal.loop-end-init
loop-end-init c = none_passed c.in-Some-eq123-default.inside.now

pub overflow_sub-inside : goal.overflow_sub-inside
overflow_sub-inside c = c.loop-end.invariant.within

pub quotes_in-quotes-requires : goal.quotes_in-quotes-requires
quotes_in-quotes-requires c =
    let s = c.in-Some-eq123-default.inside.now in
    let l = c.loop-end in
    stop_within s l.end l.quotes c.stops-found.result 0 (omega (arith, l.invariant.within, c.loop-end-test.true)) c.stops-found.ensures c.if-found-ne0.true

pub overflow_add-quotes : goal.overflow_add-quotes
overflow_add-quotes c =
    let first = c.in-Some-eq123-default in
    let s = first.inside.now in
    let is : c.args.bytes.now ≡ 123 ∷ s = first.ensures.cases.0 ∙ ap (λ b. b ∷ s) first.field-0-0-test in
    let l = c.loop-end in
    let q = c.quotes_in-quotes in
    let h = stop_passed s l.end l.quotes c.stops-found.result q.result (omega (arith, l.invariant.within, c.loop-end-test.true)) c.stops-found.ensures c.if-found-ne0.true l.invariant q.ensures in
    record { fits = omega (arith, ap length is, few_passed s _ _ h, h.within) }

pub overflow_add-quotes-in-loop-end : goal.overflow_add-quotes-in-loop-end
overflow_add-quotes-in-loop-end c =
    let first = c.in-Some-eq123-default in
    let s = first.inside.now in
    let is : c.args.bytes.now ≡ 123 ∷ s = first.ensures.cases.0 ∙ ap (λ b. b ∷ s) first.field-0-0-test in
    let l = c.loop-end in
    let q = c.quotes_in-quotes-in-loop-end in
    let h = all_passed s l.end l.quotes c.stops-found.result q.result (omega (arith, l.invariant.within, c.loop-end-test.true)) c.stops-found.ensures l.invariant c.if-found-ne0.false q.ensures in
    record { fits = omega (arith, ap length is, few_passed s _ _ h, h.within) }

pub loop-end-smaller : goal.loop-end-smaller
loop-end-smaller c = omega (arith, c.loop-end.invariant.within, c.loop-end-test.true)

pub loop-end-preserved : goal.loop-end-preserved
loop-end-preserved c =
    let s = c.in-Some-eq123-default.inside.now in
    let l = c.loop-end in
    all_passed s l.end l.quotes c.stops-found.result c.quotes_in-quotes-in-loop-end.result (omega (arith, l.invariant.within, c.loop-end-test.true)) c.stops-found.ensures l.invariant c.if-found-ne0.false c.quotes_in-quotes-in-loop-end.ensures

pub loop-end-2-init : goal.loop-end-2-init
loop-end-2-init c =
    let s = c.in-Some-eq123-default.inside.now in
    let l = c.loop-end in
    elim c.loop-end-test.branch [
      | else-loop-end-test w ↦ rw (w.end-is, w.quotes-is) l.invariant
      | then-loop-end-test+then-found-ne0 w ↦ rw (w.end-is, w.quotes-is) (stop_passed s l.end l.quotes w.stops-found.result w.quotes_in-quotes.result (omega (arith, l.invariant.within, w.loop-end-test.true)) w.stops-found.ensures w.if-found-ne0.true l.invariant w.quotes_in-quotes.ensures)
    ]

pub overflow_add-quotes-then-inside-end-eq34 : goal.overflow_add-quotes-then-inside-end-eq34
overflow_add-quotes-then-inside-end-eq34 c =
    let first = c.in-Some-eq123-default in
    let s = first.inside.now in
    let is : c.args.bytes.now ≡ 123 ∷ s = first.ensures.cases.0 ∙ ap (λ b. b ∷ s) first.field-0-0-test in
    let l = c.loop-end-2 in
    record { fits = omega (arith, ap length is, c.loop-end-2-test.true, few_passed s l.end l.quotes l.invariant) }

pub loop-end-2-preserved : goal.loop-end-2-preserved
loop-end-2-preserved c =
    let s = c.in-Some-eq123-default.inside.now in
    let l = c.loop-end-2 in
    let flat = sym c.if-not-is_stop.ensures in
    elim c.if-inside-end-eq34.branch [
      | then-inside-end-eq34 w ↦ rw w.quotes-is (quote_passed s l.end l.quotes c.loop-end-2-test.true flat l.invariant w.if-inside-end-eq34.true)
      | else-inside-end-eq34 w ↦ rw w.quotes-is (other_passed s l.end l.quotes c.loop-end-2-test.true flat l.invariant w.if-inside-end-eq34.false)
    ]

pub returns-then-quotes-eq0-clause-found : goal.returns-then-quotes-eq0-clause-found
returns-then-quotes-eq0-clause-found c =
    let first = c.in-Some-eq123-default in
    let s = first.inside.now in
    let l = c.loop-end-2 in
    let is : c.args.bytes.now ≡ 123 ∷ s = first.ensures.cases.0 ∙ ap (λ b. b ∷ s) first.field-0-0-test in
    found s l.end c.if-end-inside.true c.args.bytes.now is c.if-inside-end-eq125.true
    (flat_passed s l.end l.invariant.within l.invariant.flat (eq-eqb _ _ (sym (ap (λ n. n % 2) l.invariant.counted) ∙ c.if-quotes-eq0.true)))
