use Rattle.std.proofs.Common.{codes, option_map}
use Rattle.serde_json.specs.Data.{object}
use Rattle.serde_json.specs.View.{members_view}
use Rattle.sentry_tables.proofs.Texts.{some_found, text_read_apart}
use Rattle.sentry_moments.specs.Moments.{moment_cell}
use Rattle.sentry_envelope.proofs.timed.read_long_at.Goals as goal

pub returns : goal.returns
returns g c =
    let t = some_found _ c.in_ok-read.read (c.in-Some.value, c.in-Some.extra) c.in_ok-read.ensures c.in-Some.is in
    let extra = option_map (λ m. object (members_view m.entries)) c.in-Some.extra in
    text_read_apart (moment_cell c.args.now) (codes "extra") extra g.T.ReadApart.keys_beside g.T.Member.kind (g.T.Member.cell_of c.in-Some.value) (g.T.Member.cell_of c.with_extra.result) c.args.line.now (rw (← c.keys.ensures.keys) t) c.with_extra.ensures
