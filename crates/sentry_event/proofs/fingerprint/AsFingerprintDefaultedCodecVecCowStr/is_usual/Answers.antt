use Rattle.sentry_event.proofs.FingerprintForms.{is_the_usual, may_be_other}
use Rattle.sentry_event.proofs.fingerprint.AsFingerprintDefaultedCodecVecCowStr.is_usual.Goals as goal

pub returns-then-is_one : goal.returns-then-is_one
returns-then-is_one c = is_the_usual _ _ c.is_one.ensures c.if-is_one.true

pub returns-else-is_one : goal.returns-else-is_one
returns-else-is_one c = may_be_other _ _ _ c.is_one.ensures c.if-is_one.false c.is_one-else-is_one.ensures
