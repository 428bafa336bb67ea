use Rattle.sentry_envelope.proofs.read.add_recording.Goals as goal

pub returns-clause-ok : goal.returns-clause-ok
returns-clause-ok c = (c.in_ok-recording.recording, c.in_ok-recording.ensures, c.in_ok-push.ensures.items)
