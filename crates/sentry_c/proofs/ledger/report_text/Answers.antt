use Rattle.std.proofs.Common.{ap, ◌∙◌}
use Rattle.std.proofs.lemmas.Result.{IfOk-weaker}
use Rattle.sentry_moments.specs.declared.moment.Moment.{Moment}
use Rattle.sentry_ledger.specs.Held.{held_in}
use Rattle.sentry_c.proofs.Envelopes.{report_text_is}
use Rattle.sentry_c.proofs.ledger.report_text.Goals as goal

pub returns : goal.returns
returns c =
    let now = c.args.now in
    let at = c.new-report.ensures.timestamp in
    IfOk-weaker c.text_of.result _ _ (λ text is.
    report_text_is (held_in c.args.ledger.now) now.secs now.nanos c.new-report.result c.in-Ok.envelope text.items c.in-Ok.ensures.ok
    (ap (λ (m : Moment). m.secs) at) (ap (λ (m : Moment). m.nanos) at) (c.new-report.ensures.items ∙ c.in_ok-report_items.ensures.items) is)
    c.text_of.ensures
