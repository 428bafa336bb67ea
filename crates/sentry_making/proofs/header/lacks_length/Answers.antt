use Rattle.serde_json.specs.View.{view}
use Rattle.sentry_making.proofs.Stated.{lacks_is}
use Rattle.sentry_making.proofs.header.lacks_length.Goals as goal

pub returns-in-Ok : goal.returns-in-Ok
returns-in-Ok c = lacks_is c.args.header.now (view c.in-Ok.tree) c.get.result (λ v. view v.now) c.is_none.result c.is_none.ensures c.in-Ok.ensures.ok.0 c.in-Ok.ensures.ok.1 c.get.ensures
