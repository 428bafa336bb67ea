use Rattle.std.proofs.Common.{refl}
use Rattle.sentry_rows.proofs.Reading.{kept_value, kept_failure, kept_earlier}
use Rattle.sentry_rows.proofs.reader.Reader.keep.Goals as goal

pub returns-in-Ok : goal.returns-in-Ok
returns-in-Ok g c = kept_value g.N.Node.data_of _ _ _ c.args.self.now c.in-Ok.is

pub returns-in-None : goal.returns-in-None
returns-in-None g c = kept_failure g.N.Node.data_of _ _ _ _ c.in-Err.error c.in-Err.is c.in-None.is refl refl

pub returns-in-Some : goal.returns-in-Some
returns-in-Some g c = kept_earlier g.N.Node.data_of _ _ _ c.args.self.now _ c.in-Some.is
