use Rattle.sentry_show.proofs.RowLemmas.{rows_made}
use Rattle.sentry_show.proofs.survey.rows_of.Goals as goal

pub returns : goal.returns
returns c =
    let opened = c.in-Ok.ensures in
    let each = rw opened.bytes at c.in_ok-rows.ensures.rows in
    rows_made _ _ _ _ opened.parts opened.object c.in_ok-rows.ensures.stand each
