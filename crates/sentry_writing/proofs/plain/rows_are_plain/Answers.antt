use Rattle.std.proofs.Common.{refl}
use Rattle.sentry_writing.proofs.RowByRow.{rows_tested}
use Rattle.sentry_writing.proofs.plain.rows_are_plain.Goals as goal

pub returns : goal.returns
returns g c =
    let p = rows_tested _ (λ t. t.plain) g.T.Table.lines c.args.value.now _ _ c.rows.ensures in
    record { plain = (λ e. (p.0.0 e).1, λ h. p.0.1 (refl, h)); stored = λ e. (p.1 e).1 }
