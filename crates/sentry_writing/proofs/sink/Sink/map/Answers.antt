use Rattle.std.proofs.Common.{◌≡◌, length, false, rules}
use Rattle.std.specs.Prelude.{◌==◌}
use Rattle.sentry_writing.proofs.RowsGiven.{map_gives}
use Rattle.sentry_writing.proofs.sink.Sink.map.Goals as goal

pub returns-else-is_empty : goal.returns-else-is_empty
returns-else-is_empty g c =
    let some : (length c.args.map.now.entries == 0) ≡ false = search rules in
    map_gives g.Self.Sink.Adds g.Self.Sink.Tests c.args.key.now g.T.Member.kind g.T.Member.cell_of _ _ c.args.map.now.entries some c.member.ensures
