use Rattle.sentry_parts.specs.Debugging.{debug_meta_fields}
use Rattle.sentry_parts.proofs.DebugMetas.{is_usual}
use Rattle.sentry_parts.proofs.debug_meta.DebugMetaDefaultedTable.is_usual.Goals as goal

pub returns : goal.returns
unfolding debug_meta_fields
returns c = is_usual c.args.self.now c.is_empty.result c.is_empty.ensures
