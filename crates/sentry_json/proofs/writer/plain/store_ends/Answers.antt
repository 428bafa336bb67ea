use Rattle.sentry_json.proofs.PlainEnds.{ends_stored}
use Rattle.sentry_json.proofs.writer.plain.store_ends.Goals as goal

pub returns : goal.returns
returns g c = ends_stored g.row.N c.args.ends.now c.args.text.now c.requires.room c.requires.long
