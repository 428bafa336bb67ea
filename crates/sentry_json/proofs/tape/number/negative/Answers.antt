use Rattle.std.proofs.Common.{◌<◌, ◌^◌, to_z-of_z, ◌∙◌, arith}
use Rattle.sentry_json.proofs.Integers.{minus_is, minus_fits}
use Rattle.sentry_json.proofs.tape.number.negative.Goals as goal

pub returns-clause-value : goal.returns-clause-value
returns-clause-value c =
    let low : c.args.size < 2 ^ 63 = omega (arith, c.if-size.false, c.if-size-2.false) in
    to_z-of_z (minus_fits c.args.size low) ∙ minus_is c.args.size low
