use Rattle.std.proofs.Common.{sym, ◌∙◌, arith}
use Rattle.sentry_moments.proofs.Padding.{some_place, zero_cut, no_zero, cut_below}
use Rattle.sentry_moments.proofs.fraction.without_closing_zeros.Goals as goal

pub overflow_sub-places : goal.overflow_sub-places
overflow_sub-places c = some_place c.loop-number.places c.loop-number.number c.loop-number.invariant.1 c.loop-number.invariant.2

pub loop-number-preserved : goal.loop-number-preserved
loop-number-preserved c =
    let l = c.loop-number in
    let some = some_place l.places l.number l.invariant.1 l.invariant.2 in
    (sym (zero_cut l.places l.number some c.loop-number-test.true) ∙ l.invariant.0, omega arith, cut_below l.places l.number some l.invariant.2, omega arith)

pub returns : goal.returns
returns c =
    let l = c.loop-number in
    let some = some_place l.places l.number l.invariant.1 l.invariant.2 in
    record { same = no_zero l.places l.number some c.loop-number-test.false ∙ l.invariant.0; within = l.invariant.3 }
