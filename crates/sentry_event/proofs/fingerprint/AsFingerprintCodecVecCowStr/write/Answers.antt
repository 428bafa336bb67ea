use Rattle.std.proofs.Common.{sym, ◌∙◌}
use Rattle.sentry_event.proofs.FingerprintForms.{wrote_usual, wrote_same}
use Rattle.sentry_event.proofs.fingerprint.AsFingerprintCodecVecCowStr.write.Goals as goal

pub returns-then-is_one : goal.returns-then-is_one
returns-then-is_one c = wrote_usual _ _ _ _ (sym c.is_one.ensures ∙ c.if-is_one.true) c.write_usual.ensures

pub returns-else-is_one : goal.returns-else-is_one
returns-else-is_one c = wrote_same _ _ _ _ (sym c.is_one.ensures ∙ c.if-is_one.false) c.write.ensures
