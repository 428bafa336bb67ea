use Rattle.std.proofs.Common.{◌∙◌}
use Rattle.sentry_json.proofs.RunLengths.{run_plain}
use Rattle.sentry_json.proofs.CharacterEnds.{run_cut}
use Rattle.sentry_json.proofs.tape.rest.Rest.split_run.Goals as goal

pub from_utf8_unchecked-requires : goal.from_utf8_unchecked-requires
from_utf8_unchecked-requires c =
    rw c.split_at.ensures.front (run_cut c.as_bytes-bytes.result.now c.run_len.result c.as_bytes-bytes.ensures.utf8 c.run_len.ensures.value c.run_len.ensures.within).0

pub from_utf8_unchecked-requires-2 : goal.from_utf8_unchecked-requires-2
from_utf8_unchecked-requires-2 c =
    rw c.split_at.ensures.back (run_cut c.as_bytes-bytes.result.now c.run_len.result c.as_bytes-bytes.ensures.utf8 c.run_len.ensures.value c.run_len.ensures.within).1

pub returns-clause-plain : goal.returns-clause-plain
returns-clause-plain c = run_plain c.as_bytes-bytes.result.now c.from_utf8_unchecked.result.now c.run_len.result c.run_len.ensures.value (c.from_utf8_unchecked.ensures ∙ c.split_at.ensures.front)
