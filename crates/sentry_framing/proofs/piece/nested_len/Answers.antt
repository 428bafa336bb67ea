use Rattle.std.proofs.Common.{◌≡◌, ◌+◌, ◌∷◌, drop, get_or, refl, sym, subst, ap, ◌∙◌, arith}
use Rattle.sentry_framing.proofs.Machine.{Plain, rest_after, plain_other, plain_open, plain_close_at}
use Rattle.sentry_framing.proofs.Scan.{at, found, none, at_end, over_string, no_string}
use Rattle.sentry_framing.proofs.piece.nested_len.Goals as goal

pub loop-i-preserved-in-34 : goal.loop-i-preserved-in-34
loop-i-preserved-in-34 c =
    let s = c.in-Some-eq123-default.inside.now in
    let l = c.loop-i in
    record {
      shallow = omega (arith, l.invariant.shallow);
      same = sym (over_string s l.i l.depth c.in_ok-i-in-34.field-0 c.loop-i-test.true c.in-34.is c.in_ok-i-in-34.ensures.found) ∙ l.invariant.same;
    }

pub returns-in_err-i-in-34-clause-none : goal.returns-in_err-i-in-34-clause-none
returns-in_err-i-in-34-clause-none c =
    let first = c.in-Some-eq123-default in
    let s = first.inside.now in
    let l = c.loop-i in
    let is : c.args.bytes.now ≡ 123 ∷ s = first.ensures.cases.0 ∙ ap (λ b. b ∷ s) first.field-0-0-test in
    rw c.from_residual.ensures (none c.args.bytes.now s is (sym l.invariant.same ∙ no_string s l.i l.depth c.loop-i-test.true c.in-34.is c.in_err-i-in-34.ensures.none))

pub loop-i-preserved-in-123 : goal.loop-i-preserved-in-123
loop-i-preserved-in-123 c =
    let s = c.in-Some-eq123-default.inside.now in
    let l = c.loop-i in
    record {
      shallow = omega (arith, l.invariant.shallow);
      same = sym (at s l.i c.loop-i-test.true Plain l.depth 123 c.in-123.is ∙ plain_open (drop (l.i + 1) s) l.depth) ∙ l.invariant.same;
    }

pub returns-in-125-clause-found : goal.returns-in-125-clause-found
returns-in-125-clause-found c =
    let first = c.in-Some-eq123-default in
    let s = first.inside.now in
    let l = c.loop-i in
    let is : c.args.bytes.now ≡ 123 ∷ s = first.ensures.cases.0 ∙ ap (λ b. b ∷ s) first.field-0-0-test in
    found s l.i c.loop-i-test.true c.args.bytes.now is c.in-125.is (subst (λ d. rest_after (drop l.i s) Plain d ≡ rest_after s Plain 0) c.if-depth-eq0.true l.invariant.same)

pub loop-i-preserved-in-125-2 : goal.loop-i-preserved-in-125-2
loop-i-preserved-in-125-2 c =
    let s = c.in-Some-eq123-default.inside.now in
    let l = c.loop-i in
    record {
      shallow = omega (arith, l.invariant.shallow);
      same = sym (at s l.i c.loop-i-test.true Plain l.depth 125 c.in-125.is ∙ plain_close_at (drop (l.i + 1) s) l.depth c.if-depth-eq0.false) ∙ l.invariant.same;
    }

pub loop-i-preserved : goal.loop-i-preserved
loop-i-preserved c =
    let s = c.in-Some-eq123-default.inside.now in
    let l = c.loop-i in
    let b = get_or s l.i 0 in
    record {
      shallow = omega (arith, l.invariant.shallow);
      same = sym (at s l.i c.loop-i-test.true Plain l.depth b refl ∙ plain_other b (drop (l.i + 1) s) l.depth (λ q. omega arith) (λ q. omega arith) (λ q. omega arith)) ∙ l.invariant.same;
    }

pub returns-clause-none : goal.returns-clause-none
returns-clause-none c =
    let first = c.in-Some-eq123-default in
    let s = first.inside.now in
    let l = c.loop-i in
    let is : c.args.bytes.now ≡ 123 ∷ s = first.ensures.cases.0 ∙ ap (λ b. b ∷ s) first.field-0-0-test in
    none c.args.bytes.now s is (sym l.invariant.same ∙ at_end s l.i l.depth (omega arith))
