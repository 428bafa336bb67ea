use Rattle.std.proofs.Common.{refl}
use Rattle.sentry_frames.specs.Frames.{template_fields}
use Rattle.sentry_frames.proofs.template_info.TemplateInfoCopyTable.copy_rows.Goals as goal

pub returns : goal.returns
unfolding template_fields
returns c = (_, c.optional.ensures, (_, c.optional-2.ensures, (_, c.optional-3.ensures, (_, c.optional-4.ensures, (_, c.optional-5.ensures, (_, c.list.ensures, (_, c.list-2.ensures, refl)))))))
