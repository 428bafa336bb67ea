use Rattle.std.proofs.Common.{refl}
use Rattle.sentry_items.specs.Texts.{bytes_of}
use Rattle.sentry_envelope.proofs.Demands.{sized_where_written}
use Rattle.sentry_envelope.proofs.envelope.Envelope.text.Goals as goal

pub returns-in-Some-clause-sized : goal.returns-in-Some-clause-sized
returns-in-Some-clause-sized c =
    sized_where_written c.args.self.now (bytes_of c.in-Ok.text) (c.in-Ok.ensures (c.if-is_unwritable.ensures.stored_and_plain refl)) c.in-Some.ensures.fits (c.if-is_unwritable.ensures.stored refl)
