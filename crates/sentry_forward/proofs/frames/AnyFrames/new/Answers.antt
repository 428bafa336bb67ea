use Rattle.std.proofs.Common.{sym, subst}
use Rattle.sentry_framing.specs.Framing.{IsLineAndBody}
use Rattle.sentry_forward.proofs.Left.{line_back}
use Rattle.sentry_forward.proofs.frames.AnyFrames.new.Goals as goal

pub returns-clause-parts : goal.returns-clause-parts
returns-clause-parts c =
    let frames = c.new-frames.result in
    rw (c.header_line-header_line.ensures, c.rest.ensures) (subst (IsLineAndBody c.args.bytes.now frames.header_line) (sym (line_back c.args.bytes.now frames.header_line frames.rest c.new-frames.ensures)) c.new-frames.ensures)
