use Rattle.std.proofs.Common.{arith, rules}
use Rattle.sentry_frames.proofs.ThreadIds.{thread_number, no_thread}
use Rattle.sentry_frames.proofs.thread_id.ThreadIdFromTree.from_node.Goals as goal

pub returns-in-Some-as_u64 : goal.returns-in-Some-as_u64
returns-in-Some-as_u64 g c = thread_number _ _ (search rules) (omega arith)

pub returns-in-None-as_u64 : goal.returns-in-None-as_u64
returns-in-None-as_u64 g c = no_thread _ (search rules) (search rules)
