use Rattle.std.proofs.Common.{◌≡◌, None, Ok, Some, codes, rules, subst, sym, ◌∙◌}
use Rattle.sentry_moments.specs.Moments.{moment_cell}
use Rattle.sentry_envelope.specs.NormalText.{IsValuePassed}
use Rattle.sentry_envelope.specs.SentryProfile.{held_at}
use Rattle.sentry_envelope.proofs.Rewriting.{main_passed}
use Rattle.sentry_envelope.proofs.timed.pass_main.Goals as goal

pub returns : goal.returns
returns g c =
    let none : c.pass_given.result ≡ Ok None = search rules in
    subst (λ o. IsValuePassed (held_at (codes "event_id") g.T.Member.kind) (moment_cell c.args.now) g.T.Member.kind c.args.line.now c.args.id.now (Some c.id.result) o c.write.new.out) (c.pass_given.ensures.none none)
    (main_passed (held_at (codes "event_id") g.T.Member.kind) (moment_cell c.args.now) g.T.Member.kind c.args.line.now (g.T.Member.cell_of c.in_ok-value.value) c.args.id.now c.id.result c.pass_given.new.out c.write.new.out
    (sym c.is_some.ensures ∙ c.if-is_some.false) c.in_ok-value.ensures c.in_ok-write.ensures c.id.ensures)
