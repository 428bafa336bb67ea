use Rattle.sentry_tables.proofs.Tokens.{object_wrote}
use Rattle.sentry_writing.proofs.table.write_rows.Goals as goal

pub returns : goal.returns
returns g c = object_wrote _ _ _ _ _ _ c.in_ok-begin_object.ensures c.in_ok-write_members.ensures c.end_object.ensures
