use Rattle.std.proofs.Common.{take}
use Rattle.sentry_ledger.specs.Recorded.{Records}
use Rattle.sentry_ledger.proofs.ledger.Ledger.record_all.Given as goal

abbrev pub invariant-loop-loss : goal.invariant-loop-loss
invariant-loop-loss l = Records l.initial.self l.self l.reason (take l.loss-index l.losses) l.refused
