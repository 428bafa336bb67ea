use Rattle.sentry_json.proofs.Lines.{tree_of_is}
use Rattle.sentry_json.proofs.laws.what_a_line_is.Goals as goal

pub returns : goal.returns
returns c = tree_of_is
