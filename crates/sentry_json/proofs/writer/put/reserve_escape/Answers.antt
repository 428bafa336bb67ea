use Rattle.std.proofs.Common.{arith}
use Rattle.sentry_json.proofs.Appended.{escape_short}
use Rattle.sentry_json.proofs.writer.put.reserve_escape.Goals as goal

pub returns-then-run-ready-clause-ready : goal.returns-then-run-ready-clause-ready
returns-then-run-ready-clause-ready c = omega (arith, escape_short c.args.byte, c.if-run-ready, c.ready.ensures)
