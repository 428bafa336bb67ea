use Rattle.std.proofs.Common.{sym, subst}
use Rattle.sentry_moments.specs.Moments.{moment_cell}
use Rattle.sentry_framing.specs.Framing.{IsLineAndBody}
use Rattle.sentry_mending.proofs.Given.{id_stated}
use Rattle.sentry_mending.proofs.header_ids.header_id.Goals as goal

pub returns-in-Ok : goal.returns-in-Ok
returns-in-Ok g c =
    let parts = subst (λ l. IsLineAndBody c.args.bytes.now l c.new-frames.result.rest) (sym c.header_line-line.ensures) c.new-frames.ensures in
    id_stated (moment_cell c.args.now) c.args.bytes.now c.header_line-line.result.now c.new-frames.result.rest c.in-Ok.envelope c.id_of.result parts c.in-Ok.ensures.spelled c.id_of.ensures
