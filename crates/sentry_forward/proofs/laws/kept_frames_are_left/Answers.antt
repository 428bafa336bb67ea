use Rattle.sentry_forward.proofs.Left.{left_line, left_pieces, left_frames}
use Rattle.sentry_forward.proofs.laws.kept_frames_are_left.Goals as goal

pub returns-clause-line : goal.returns-clause-line
returns-clause-line c = left_line

pub returns-clause-pieces : goal.returns-clause-pieces
returns-clause-pieces c = left_pieces

pub returns-clause-frames : goal.returns-clause-frames
returns-clause-frames c = left_frames
