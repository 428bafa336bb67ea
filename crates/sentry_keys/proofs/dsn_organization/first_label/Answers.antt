use Rattle.sentry_keys.proofs.DsnHosts.{first_label_parts}
use Rattle.sentry_keys.proofs.dsn_organization.first_label.Goals as goal

pub returns : goal.returns
returns c = first_label_parts c.args.host.now c.split_once.result c.split_once.ensures.cases
