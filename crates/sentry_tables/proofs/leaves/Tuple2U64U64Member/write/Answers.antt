use Rattle.sentry_tables.proofs.Tokens.{pair_wrote}
use Rattle.sentry_tables.proofs.leaves.Tuple2U64U64Member.write.Goals as goal

pub returns : goal.returns
returns c = pair_wrote _ _ _ _ _ _ _ _ c.in_ok-begin_array.ensures c.in_ok-u64.ensures c.in_ok-u64-2.ensures c.end_array.ensures
