use Rattle.std.proofs.Common.{sym, ◌∙◌}
use Rattle.sentry_event.proofs.FingerprintForms.{tree_usual, tree_same}
use Rattle.sentry_event.proofs.fingerprint.AsFingerprintCodecVecCowStr.to_tree.Goals as goal

pub returns-then-is_one : goal.returns-then-is_one
returns-then-is_one c = tree_usual _ _ (sym c.is_one.ensures ∙ c.if-is_one.true) c.usual_tree.ensures

pub returns-else-is_one : goal.returns-else-is_one
returns-else-is_one c = tree_same _ _ (sym c.is_one.ensures ∙ c.if-is_one.false) c.to_tree.ensures
