use Rattle.sentry_forward.proofs.Left.{whole_left}
use Rattle.sentry_forward.proofs.laws.all_kept_changes_nothing.Goals as goal

pub returns : goal.returns
returns c = whole_left
