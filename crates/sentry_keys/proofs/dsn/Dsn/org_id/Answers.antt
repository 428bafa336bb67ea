use Rattle.sentry_keys.proofs.dsn.Dsn.org_id.Goals as goal

pub returns : goal.returns
returns c = rw c.host.ensures at c.organization_of.ensures
