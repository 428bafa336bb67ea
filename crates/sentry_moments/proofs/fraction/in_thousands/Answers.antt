use Rattle.std.proofs.Common.{◌/◌, sym, ◌∙◌, lit≤, arith}
use Rattle.sentry_moments.proofs.Padding.{thousand_cut}
use Rattle.sentry_moments.proofs.fraction.in_thousands.Goals as goal

pub returns-then-millionths-ne0-clause-same : goal.returns-then-millionths-ne0-clause-same
returns-then-millionths-ne0-clause-same c = sym (thousand_cut 9 c.args.billionths (lit≤ tt) (omega (arith, c.if-billionths-ne0)))

pub returns-clause-same : goal.returns-clause-same
returns-clause-same c =
    sym (thousand_cut 9 c.args.billionths (lit≤ tt) (omega (arith, c.if-billionths-ne0)) ∙ thousand_cut 6 (c.args.billionths / 1_000) (lit≤ tt) (omega (arith, c.if-millionths-ne0)))
