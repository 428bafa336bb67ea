use Rattle.std.proofs.Common.{◌≡◌, ◌<◌, ◌+◌, ◌-◌, ◌*◌, ◌^◌, get_or, subst, arith}
use Rattle.sentry_json.proofs.Integers.{one_first}
use Rattle.sentry_json.proofs.tape.number.many_digits.Goals as goal

pub loop-len-preserved : goal.loop-len-preserved
loop-len-preserved c =
    let l = c.loop-len in
    let bytes = c.args.bytes.now in
    let digit = c.if-is_ascii_digit.ensures.cases in
    let more = c.in_ok-number in
    let is : more.number ≡ l.number * 10 + (get_or bytes l.len 0 - 48) = omega (arith, c.in_ok-checked_mul.ensures, more.ensures, c.from.ensures, digit) in
    let fits : more.number < 2 ^ 64 = omega (arith, more.ensures) in
    rw is (one_first bytes l.len l.number c.loop-len-test.true digit (subst (λ n. n < 2 ^ 64) is fits) l.invariant)
