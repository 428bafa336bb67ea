use Rattle.sentry_keys.proofs.AuthReadBack.{begins, text_told}
use Rattle.sentry_keys.proofs.auth_laws.auth_texts.Goals as goal

pub returns : goal.returns
returns c = record { word = begins; back = text_told }
