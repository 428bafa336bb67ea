use Rattle.std.proofs.Common.{arith, ◌<◌, get_or, refl}
use Rattle.sentry_moments.proofs.DateAndTimes.{no_bits}
use Rattle.sentry_moments.proofs.rfc3339.has_form.Goals as goal

pub returns-then-above_lowest-ne0 : goal.returns-then-above_lowest-ne0
returns-then-above_lowest-ne0 c =
    let bits = no_bits c.args.text.now c.requires (λ k. (c.type_inv.text k).fits) in
    let byte : get_or c.args.text.now 10 0 < 256 = (c.type_inv.text 10).fits in
    (λ wrong. absurd cc, λ h. absurd (c.if-above_lowest-ne0.true (bits.1 (grind arith))))

pub returns-in-84-eq58-48-to-53-48-to-57 : goal.returns-in-84-eq58-48-to-53-48-to-57
returns-in-84-eq58-48-to-53-48-to-57 c =
    let within = (no_bits c.args.text.now c.requires (λ k. (c.type_inv.text k).fits)).0 c.if-above_lowest-ne0.false in
    (λ right. grind arith, λ h. refl)
