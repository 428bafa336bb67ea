use Rattle.sentry_framing.proofs.Outcomes.{piece_or_none}
use Rattle.sentry_framing.proofs.laws.a_piece_or_none.Goals as goal

pub returns : goal.returns
returns c = piece_or_none
