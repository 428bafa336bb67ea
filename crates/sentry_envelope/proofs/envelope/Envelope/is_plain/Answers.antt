use Rattle.sentry_envelope.proofs.Demands.{plain_by_items, stored_by_items, not_plain_header}
use Rattle.sentry_envelope.proofs.envelope.Envelope.is_plain.Goals as goal

pub returns-then-is_plain-clause-plain : goal.returns-then-is_plain-clause-plain
returns-then-is_plain-clause-plain c =
    plain_by_items c.args.self.now c.items_are_plain.result c.in-Items.items c.in-Items.is c.is_plain.result c.if-is_plain.true c.is_plain.ensures.plain (rw c.deref.ensures.value at c.items_are_plain.ensures.plain)

pub returns-then-is_plain-clause-stored : goal.returns-then-is_plain-clause-stored
returns-then-is_plain-clause-stored c =
    stored_by_items c.args.self.now c.items_are_plain.result c.in-Items.items c.in-Items.is c.is_plain.result c.if-is_plain.true c.is_plain.ensures.stored (rw c.deref.ensures.value at c.items_are_plain.ensures.stored)

pub returns-else-is_plain-clause-plain : goal.returns-else-is_plain-clause-plain
returns-else-is_plain-clause-plain c =
    not_plain_header c.args.self.now c.is_plain.result c.in-Items.items c.in-Items.is c.is_plain.result c.if-is_plain.false c.is_plain.ensures.plain c.if-is_plain.false
