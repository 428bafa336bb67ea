use Rattle.json.specs.Written.{PlainBetween}
use Rattle.sentry_json.proofs.writer.plain.are_plain.Given as goal

abbrev pub invariant-loop-byte : goal.invariant-loop-byte
invariant-loop-byte l = PlainBetween l.text 0 l.byte-index
