use Rattle.std.proofs.Common.{◌∙◌, sym, ap}
use Rattle.std.specs.Char.{is_ascii}
use Rattle.sentry_json.proofs.CharacterEnds.{after_ascii}
use Rattle.sentry_json.proofs.tape.rest.Rest.after.Goals as goal

pub from_utf8_unchecked-text-requires : goal.from_utf8_unchecked-text-requires
from_utf8_unchecked-text-requires c = after_ascii c.as_bytes.result.now c.in_ok-first.rest.now c.in_ok-first.first.now c.as_bytes.ensures.utf8 c.in_ok-first.ensures.cases.0 (ap is_ascii c.if-first-byte.false ∙ sym c.is_ascii.ensures ∙ c.if-not-is_ascii.false)
