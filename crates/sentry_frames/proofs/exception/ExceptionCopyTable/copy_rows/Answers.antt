use Rattle.std.proofs.Common.{refl}
use Rattle.sentry_frames.specs.Exceptions.{exception_fields}
use Rattle.sentry_frames.proofs.exception.ExceptionCopyTable.copy_rows.Goals as goal

pub returns : goal.returns
unfolding exception_fields
returns c = (_, c.optional.ensures, (_, c.optional-2.ensures, (_, c.optional-3.ensures, (_, c.optional-4.ensures, (_, c.optional-5.ensures, (_, c.text.ensures, (_, c.optional-6.ensures, refl)))))))
