use Rattle.std.proofs.Common.{◌≡◌, rules, sym, ◌∙◌}
use Rattle.sentry_writing.proofs.RowsGiven.{text_left, text_gives}
use Rattle.sentry_writing.proofs.sink.Sink.text_unless.Goals as goal

pub returns-then-eq : goal.returns-then-eq
returns-then-eq g c =
    let is : c.as_str-text.result.now ≡ g.T.AsStr.text c.args.value.now = search rules in
    rw (← is) (text_left g.Self.Sink.Adds g.Self.Sink.Tests c.args.key.now _ _ _ _ (sym c.eq.ensures ∙ c.if-eq.true) c.left_out_text.ensures)

pub returns-else-eq : goal.returns-else-eq
returns-else-eq g c =
    let is : c.as_str-text.result.now ≡ g.T.AsStr.text c.args.value.now = search rules in
    rw (← is) (text_gives g.Self.Sink.Adds g.Self.Sink.Tests c.args.key.now _ _ _ _ (sym c.eq.ensures ∙ c.if-eq.false) c.word.ensures)
