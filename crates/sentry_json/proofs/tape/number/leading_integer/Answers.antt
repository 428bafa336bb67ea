use Rattle.std.proofs.Common.{◌<◌, arith}
use Rattle.sentry_json.proofs.Integers.{one_first, room}
use Rattle.sentry_json.proofs.tape.number.leading_integer.Goals as goal

pub overflow_mul-number : goal.overflow_mul-number
overflow_mul-number c =
    let few : c.loop-len.len < 19 = omega (arith, c.loop-len.invariant.1, c.if-len-eq-ALWAYS.false) in
    omega (arith, room c.args.bytes.now c.loop-len.len c.loop-len.number few c.loop-len.invariant.0)

pub overflow_add-number : goal.overflow_add-number
overflow_add-number c =
    let few : c.loop-len.len < 19 = omega (arith, c.loop-len.invariant.1, c.if-len-eq-ALWAYS.false) in
    omega (arith, c.if-is_ascii_digit.ensures.cases, c.from.ensures, room c.args.bytes.now c.loop-len.len c.loop-len.number few c.loop-len.invariant.0)

pub loop-len-preserved : goal.loop-len-preserved
loop-len-preserved c =
    let l = c.loop-len in
    let few : l.len < 19 = omega (arith, l.invariant.1, c.if-len-eq-ALWAYS.false) in
    let digit = c.if-is_ascii_digit.ensures.cases in
    (rw c.from.ensures (one_first c.args.bytes.now l.len l.number c.loop-len-test.true digit (omega (arith, digit, room c.args.bytes.now l.len l.number few l.invariant.0)) l.invariant.0), omega (arith, few))
