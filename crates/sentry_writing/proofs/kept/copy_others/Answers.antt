use Rattle.std.proofs.Common.{◌≡◌}
use Rattle.std.proofs.lemmas.Result.{IfOk-weaker}
use Rattle.serde_json.specs.View.{members_view}
use Rattle.sentry_tables.specs.Cells.{map_cell, tree_cell}
use Rattle.sentry_tables.proofs.Collections.{others_same_cell}
use Rattle.sentry_writing.proofs.kept.copy_others.Goals as goal

pub returns : goal.returns
returns c =
    let all = c.args.others.now.entries in
    IfOk-weaker c.copy.result (λ m. map_cell tree_cell m.entries ≡ map_cell tree_cell all) (λ m. members_view m.entries ≡ members_view all) (λ m e. others_same_cell m.entries all e) c.copy.ensures
