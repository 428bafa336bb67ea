use Rattle.std.proofs.Common.{refl}
use Rattle.sentry_frames.specs.Frames.{frame_fields}
use Rattle.sentry_frames.proofs.frame.FrameCopyTable.copy_rows.Goals as goal

pub returns : goal.returns
unfolding frame_fields
returns c = (_, c.optional.ensures, (_, c.optional-2.ensures, (_, c.optional-3.ensures, (_, c.optional-4.ensures, (_, c.optional-5.ensures, (_, c.optional-6.ensures, (_, c.optional-7.ensures, (_, c.optional-8.ensures, (_, c.optional-9.ensures, (_, c.optional-10.ensures, (_, c.optional-11.ensures, (_, c.optional-12.ensures, (_, c.list.ensures, (_, c.list-2.ensures, (_, c.optional-13.ensures, (_, c.optional-14.ensures, (_, c.in_ok-map.ensures, refl)))))))))))))))))
