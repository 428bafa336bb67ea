use Rattle.std.proofs.Common.{refl}
use Rattle.sentry_frames.specs.Threads.{thread_fields}
use Rattle.sentry_frames.proofs.thread.ThreadCopyTable.copy_rows.Goals as goal

pub returns : goal.returns
unfolding thread_fields
returns c = (_, c.plain.ensures, (_, c.plain-2.ensures, (_, c.optional.ensures, (_, c.optional-2.ensures, (_, c.optional-3.ensures, (_, c.optional-4.ensures, refl))))))
