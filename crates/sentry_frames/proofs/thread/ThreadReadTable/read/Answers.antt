use Rattle.std.proofs.Common.{refl}
use Rattle.sentry_frames.specs.Threads.{thread_fields}
use Rattle.sentry_frames.proofs.thread.ThreadReadTable.read.Goals as goal

pub returns : goal.returns
unfolding thread_fields
returns g c = (_, c.or.ensures, (_, c.or-2.ensures, (_, c.optional.ensures, (_, c.optional-2.ensures, (_, c.optional-3.ensures, (_, c.optional-4.ensures, refl))))))
