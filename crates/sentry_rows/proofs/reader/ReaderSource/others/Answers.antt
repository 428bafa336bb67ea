use Rattle.serde_json.specs.View.{members_view}
use Rattle.sentry_rows.proofs.Reading.{others_kept}
use Rattle.sentry_rows.proofs.reader.ReaderSource.others.Goals as goal

pub returns : goal.returns
returns g c = others_kept g.N.Node.data_of _ _ (λ m. members_view m.entries) _ _ _ c.others-read.ensures.ok c.others-read.ensures.err c.keep.ensures
