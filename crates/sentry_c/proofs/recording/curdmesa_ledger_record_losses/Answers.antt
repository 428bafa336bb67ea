use Rattle.std.proofs.Common.{sym}
use Rattle.sentry_c.specs.Recording.{losses_told}
use Rattle.sentry_c.proofs.Refusals.{records_row}
use Rattle.sentry_c.proofs.recording.curdmesa_ledger_record_losses.Goals as goal

pub returns-clause-recorded : goal.returns-clause-recorded
returns-clause-recorded c = λ _. (
  c.in-Some.reason,
  sym c.in-Some.ensures,
  records_row c.args.ledger.now c.add_losses.new.ledger c.in-Some.reason (losses_told c.args.losses.now) c.add_losses.new.refused c.add_losses.ensures,
)
