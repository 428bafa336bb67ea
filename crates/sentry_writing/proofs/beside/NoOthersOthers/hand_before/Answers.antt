use Rattle.std.proofs.Common.{refl}
use Rattle.serde_json.specs.Data.{no_members}
use Rattle.sentry_writing.proofs.Merging.{way_cleared}
use Rattle.sentry_writing.proofs.beside.NoOthersOthers.hand_before.Goals as goal

pub returns : goal.returns
returns g c = way_cleared (g.S.Sink.Adds c.args._sink.now c.args._sink.now) c.args._key.now no_members no_members no_members no_members (g.met.S.Sink.nothing c.args._sink.now) tt refl (λ d. refl)
