use Rattle.std.proofs.Common.{refl}
use Rattle.sentry_c.proofs.Placed.{after_line_feed}
use Rattle.sentry_c.proofs.frames.frames_from.Goals as goal

pub returns-clause-body : goal.returns-clause-body
returns-clause-body c =
    after_line_feed c.args.bytes.now c.args.offset _ _ _ c.if-offset-eq0.false c.if-offset-bytes-2.false c.if-bytes-offset-ne10.false refl c.new-2.ensures
