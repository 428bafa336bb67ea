use Rattle.sentry_envelope.proofs.HeadersFilled.{rows_filled}
use Rattle.sentry_envelope.proofs.headers.fill_from_root.Goals as goal

pub returns-clause-ok : goal.returns-clause-ok
returns-clause-ok g c = (rows_filled g.N.Node.data_of c.read.result _ _ _ c.end.result c.in_ok-from.ensures.object c.read.ensures c.in_ok-from.ensures.failed c.end.ensures).0

pub returns-clause-err : goal.returns-clause-err
returns-clause-err g c = (rows_filled g.N.Node.data_of c.read.result _ _ _ c.end.result c.in_ok-from.ensures.object c.read.ensures c.in_ok-from.ensures.failed c.end.ensures).1
