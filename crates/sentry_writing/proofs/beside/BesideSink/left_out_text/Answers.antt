use Rattle.std.proofs.Common.{refl}
use Rattle.sentry_writing.specs.Merged.{merges_nothing}
use Rattle.sentry_writing.proofs.beside.BesideSink.left_out_text.Goals as goal

pub returns : goal.returns
returns g c = ((refl, merges_nothing g.S.Sink.Adds g.met.S.Sink.nothing g.met.S.Sink.joined _ _), tt)
