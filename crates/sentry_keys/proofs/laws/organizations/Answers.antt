use Rattle.sentry_keys.proofs.DsnHosts.{one_organization}
use Rattle.sentry_keys.proofs.laws.organizations.Goals as goal

pub returns : goal.returns
returns c = one_organization
