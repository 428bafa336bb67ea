use Rattle.sentry_keys.proofs.DsnHosts.{sentry_told}
use Rattle.sentry_keys.proofs.dsn_organization.is_sentry_io.Goals as goal

pub returns : goal.returns
returns c = sentry_told c.args.host.now c.eq.result c.eq.ensures
