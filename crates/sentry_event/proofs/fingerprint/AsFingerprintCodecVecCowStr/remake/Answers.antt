use Rattle.std.proofs.Common.{sym, ◌∙◌}
use Rattle.sentry_event.specs.Fingerprints.{fingerprint_cell}
use Rattle.sentry_event.proofs.FingerprintForms.{remake_same, remake_usual, remake_other}
use Rattle.sentry_event.proofs.fingerprint.AsFingerprintCodecVecCowStr.remake.Goals as goal

pub returns-in-Same : goal.returns-in-Same
returns-in-Same c = remake_same (λ v. fingerprint_cell v.items) _ _ _ c.in-Same.is c.copy.ensures

pub returns-then-is_one : goal.returns-then-is_one
returns-then-is_one c = remake_usual (λ v. fingerprint_cell v.items) _ _ _ c.in-Normal.is (sym c.is_one.ensures ∙ c.if-is_one.true) c.usual.ensures

pub returns-else-is_one : goal.returns-else-is_one
returns-else-is_one c = remake_other (λ v. fingerprint_cell v.items) _ _ _ c.in-Normal.is (sym c.is_one.ensures ∙ c.if-is_one.false) c.copy-else-is_one.ensures
