use Rattle.sentry_envelope.proofs.ItemIds.{one_added}
use Rattle.sentry_envelope.proofs.envelope.Envelope.add_item.Goals as goal

pub returns-in-Ok-clause-added : goal.returns-in-Ok-clause-added
returns-in-Ok-clause-added c = λ old some.
    one_added c.args.self.now c.in-Items.items c.args.item c.id_of-id.result _ _ old c.in-Items.is c.id_of-id.ensures c.fill.ensures c.in-Ok.ensures.items some
