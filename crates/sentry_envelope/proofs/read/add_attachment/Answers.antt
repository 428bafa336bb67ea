use Rattle.sentry_envelope.proofs.read.add_attachment.Goals as goal

pub returns-clause-ok : goal.returns-clause-ok
returns-clause-ok c = (c.in_ok-attachment.attachment, c.in_ok-attachment.ensures, c.in_ok-push.ensures.items)
