use Rattle.sentry_records.proofs.Attributes.{gave_any}
use Rattle.sentry_records.proofs.log_attribute.give_typed.Goals as goal

pub returns : goal.returns
returns g c = gave_any g.S.Sink.Adds g.met.S.Sink.joined _ _ _ _ _ c.word.ensures.0 c.member.ensures.0
