use Rattle.sentry_forward.proofs.Readings.{known_frames, known_typed}
use Rattle.sentry_forward.proofs.laws.known_frames_are_frames.Goals as goal

pub returns-clause-frames : goal.returns-clause-frames
returns-clause-frames c = known_frames

pub returns-clause-headers : goal.returns-clause-headers
returns-clause-headers c = known_typed
