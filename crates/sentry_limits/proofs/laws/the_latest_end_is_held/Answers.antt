use Rattle.sentry_limits.proofs.Limits.{latest_each, latest_held, latest_one}
use Rattle.sentry_limits.proofs.laws.the_latest_end_is_held.Goals as goal

pub returns : goal.returns
returns c = record { held = latest_held; each = latest_each; one = latest_one }
