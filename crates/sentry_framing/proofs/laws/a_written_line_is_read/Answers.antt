use Rattle.sentry_framing.proofs.Written.{line_read}
use Rattle.sentry_framing.proofs.laws.a_written_line_is_read.Goals as goal

pub returns : goal.returns
returns c = line_read
