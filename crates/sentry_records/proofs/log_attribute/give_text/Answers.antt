use Rattle.sentry_records.proofs.Attributes.{gave}
use Rattle.sentry_records.proofs.log_attribute.give_text.Goals as goal

pub returns : goal.returns
returns g c = gave g.S.Sink.Adds g.met.S.Sink.joined _ _ _ _ _ c.word.ensures.0 c.word-2.ensures.0
