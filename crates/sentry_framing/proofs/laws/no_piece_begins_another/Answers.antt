use Rattle.sentry_framing.proofs.Pieces.{not_longer}
use Rattle.sentry_framing.proofs.laws.no_piece_begins_another.Goals as goal

pub returns : goal.returns
returns c = not_longer
