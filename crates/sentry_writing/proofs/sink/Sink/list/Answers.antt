use Rattle.std.proofs.Common.{◌≡◌, length, false, arith}
use Rattle.std.specs.Prelude.{◌==◌}
use Rattle.std.proofs.lemmas.Grind.{common_steps}
use Rattle.sentry_writing.proofs.RowsGiven.{list_gives}
use Rattle.sentry_writing.proofs.sink.Sink.list.Goals as goal

pub returns-else-is_empty : goal.returns-else-is_empty
returns-else-is_empty g c =
    let some : (length c.args.list.now.items == 0) ≡ false = grind (arith, common_steps, c.args.list.now.ok.0) in
    list_gives g.Self.Sink.Adds g.Self.Sink.Tests c.args.key.now g.T.Member.kind g.T.Member.cell_of _ _ c.args.list.now.items some c.member.ensures
