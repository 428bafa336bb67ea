use Rattle.sentry_items.proofs.AttachmentTypes.{no_word_twice, type_has_laws}
use Rattle.sentry_items.proofs.laws.attachment_types_read_back.Goals as goal

pub returns-clause-once : goal.returns-clause-once
returns-clause-once c = no_word_twice

pub returns-clause-laws : goal.returns-clause-laws
returns-clause-laws c = type_has_laws
