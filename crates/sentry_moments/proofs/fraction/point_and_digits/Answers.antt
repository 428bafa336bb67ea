use Rattle.std.proofs.Common.{refl, ◌∙◌, arith, length-set}
use Rattle.std.proofs.lemmas.List.{take-set-le}
use Rattle.sentry_moments.proofs.Places.{none_written, one_written, all_written}
use Rattle.sentry_moments.proofs.fraction.point_and_digits.Goals as goal

pub loop-left-init : goal.loop-left-init
loop-left-init c = (omega arith, refl, refl, none_written c.args.places c.args.number _)

pub loop-left-preserved : goal.loop-left-preserved
loop-left-preserved c =
    let l = c.loop-left in (
      omega arith,
      length-set l.text l.left c.last_digit.result ∙ l.invariant.1,
      take-set-le 1 l.text l.left c.last_digit.result (omega arith) ∙ l.invariant.2,
      one_written c.args.places l.left l.rest c.args.number c.last_digit.result l.text (omega arith) l.invariant.0 (omega arith) c.last_digit.ensures l.invariant.3,
    )

pub returns : goal.returns
returns c =
    let l = c.loop-left in
    all_written c.args.places l.left l.rest c.args.number l.text (omega arith) l.invariant.2 l.invariant.3
