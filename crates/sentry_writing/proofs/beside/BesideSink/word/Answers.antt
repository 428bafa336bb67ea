use Rattle.std.proofs.Common.{refl}
use Rattle.sentry_writing.proofs.Merging.{member_merged}
use Rattle.sentry_writing.proofs.beside.BesideSink.word.Goals as goal

pub returns : goal.returns
returns g c = ((refl, member_merged g.S.Sink.Adds g.met.S.Sink.joined _ _ _ _ _ _ _ c.hand_before.ensures c.word.ensures.0), tt)
