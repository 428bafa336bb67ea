use Rattle.std.proofs.lemmas.Str.{IsUtf8-from_ascii}
use Rattle.sentry_json.proofs.tape.rest.Rest.new.Goals as goal

pub from_utf8_unchecked-text-requires : goal.from_utf8_unchecked-text-requires
from_utf8_unchecked-text-requires c = IsUtf8-from_ascii c.args.line.now c.if-is_ascii.ensures.cases
