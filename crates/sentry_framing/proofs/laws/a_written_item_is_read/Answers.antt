use Rattle.sentry_framing.proofs.Written.{item_read}
use Rattle.sentry_framing.proofs.laws.a_written_item_is_read.Goals as goal

pub returns : goal.returns
returns c = item_read
