use Rattle.sentry_keys.proofs.DsnSplits.{last_cut_parts}
use Rattle.sentry_keys.proofs.dsn_path.last_cut.Goals as goal

pub returns : goal.returns
returns c = last_cut_parts c.args.text.now c.rsplit_once.result c.rsplit_once.ensures.cases
