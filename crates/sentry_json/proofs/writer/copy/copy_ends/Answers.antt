use Rattle.sentry_json.proofs.Copied.{ends_copied}
use Rattle.sentry_json.proofs.writer.copy.copy_ends.Goals as goal

pub returns : goal.returns
returns g c = ends_copied g.row.N c.args.to.now c.args.text.now c.requires.same c.requires.long c.requires.covered
