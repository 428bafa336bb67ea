use Rattle.std.proofs.Common.{rules, sym}
use Rattle.std.proofs.lemmas.Bool.{false≢true}
use Rattle.sentry_tables.proofs.Spellings.{not_text}
use Rattle.sentry_identifiers.specs.Uuids.{uuid_spelling}
use Rattle.sentry_identifiers.proofs.UuidTexts.{uuid_shown, not_uuid}
use Rattle.sentry_identifiers.proofs.uuids.read_uuid.Goals as goal

pub returns-in-Ok : goal.returns-in-Ok
returns-in-Ok g c = λ to_text. uuid_shown to_text c.in-Some.text.now c.in-Ok.id _ (search rules) (sym c.in-Ok.ensures.bytes)

pub returns-in-Err : goal.returns-in-Err
returns-in-Err g c = λ to_text. not_uuid to_text c.in-Some.text.now _ (search rules) (λ b e. false≢true (c.in-Err.ensures.ok.1 (b, e)))

pub returns-in-None : goal.returns-in-None
returns-in-None g c = λ to_text. not_text (uuid_spelling to_text) _ (search rules)
