use Rattle.std.proofs.Common.{sym}
use Rattle.sentry_c.specs.Recording.{losses_told}
use Rattle.sentry_c.proofs.Refusals.{records_row}
use Rattle.sentry_c.proofs.recording.curdmesa_ledger_record_envelope.Goals as goal

pub returns-in-Ok-clause-recorded : goal.returns-in-Ok-clause-recorded
returns-in-Ok-clause-recorded c = λ _.
    record {
      reason = c.in-Some.reason;
      reason_is = sym c.in-Some.ensures;
      losses = c.as_slice.result.now;
      lost = (c.in-Ok.sums, c.as_slice.ensures, c.in-Ok.ensures.lost);
      recorded = records_row c.args.ledger.now c.add_losses.new.ledger c.in-Some.reason (losses_told c.as_slice.result.now) c.add_losses.new.refused c.add_losses.ensures;
    }
