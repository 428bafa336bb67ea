use Rattle.sentry_event.proofs.FingerprintForms.{usual_wrote}
use Rattle.sentry_event.proofs.fingerprint.write_usual.Goals as goal

pub returns : goal.returns
returns c = usual_wrote _ _ _ _ _ c.in_ok-begin_array.ensures c.in_ok-string.ensures c.end_array.ensures
