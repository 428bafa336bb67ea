use Rattle.std.proofs.Common.{rules}
use Rattle.serde_json.proofs.Views.{view-Array}
use Rattle.sentry_event.proofs.FingerprintForms.{usual_tree_is}
use Rattle.sentry_event.proofs.fingerprint.usual_tree.Goals as goal

pub returns : goal.returns
returns c = usual_tree_is _ _ c.in_ok-try_from_str.field-0 (view-Array c.push.new.self) (search rules) c.in_ok-try_from_str.ensures
