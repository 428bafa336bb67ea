use Rattle.std.proofs.Common.{◌≤◌, length, string_bytes}
use Rattle.json.specs.Lex.{in_string}
use Rattle.json.specs.Text.{plain}
use Rattle.sentry_json.specs.Escaped.{StandsFor}
use Rattle.sentry_json.proofs.tape.escape.split_escaped.Given as goal

abbrev pub invariant-loop-escape : goal.invariant-loop-escape
invariant-loop-escape l = record {
  read : StandsFor plain in_string l.fn.inside.text.now (string_bytes l.content) l.rest.text.now;
  within : length l.rest.text.now ≤ length l.fn.inside.text.now;
}

abbrev pub decreases-loop-escape : goal.decreases-loop-escape
decreases-loop-escape l = length l.rest.text.now
