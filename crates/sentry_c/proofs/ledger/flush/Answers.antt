use Rattle.std.proofs.Common.{rules}
use Rattle.sentry_ledger.specs.Held.{held_in}
use Rattle.sentry_c.proofs.Envelopes.{report_is}
use Rattle.sentry_c.proofs.ledger.flush.Goals as goal

pub returns-then-not-deliver-clause-no_room : goal.returns-then-not-deliver-clause-no_room
returns-then-not-deliver-clause-no_room c = λ _.
    record {
      text = c.report_in.result.now;
      meant = report_is c.args.item_alone (held_in c.args.ledger.now) c.args.now_secs c.args.now_nanos c.in-Ok.text.items c.report_in.result.now (rw (c.in-Some.ensures.same.0, c.in-Some.ensures.same.1) at c.in-Ok.ensures) (rw c.deref.ensures.value at c.report_in.ensures);
      longer = search rules;
      length_told = search rules;
    }

pub returns-clause-written : goal.returns-clause-written
returns-clause-written c = λ _.
    record {
      text = c.report_in.result.now;
      meant = report_is c.args.item_alone (held_in c.args.ledger.now) c.args.now_secs c.args.now_nanos c.in-Ok.text.items c.report_in.result.now (rw (c.in-Some.ensures.same.0, c.in-Some.ensures.same.1) at c.in-Ok.ensures) (rw c.deref.ensures.value at c.report_in.ensures);
      fits = search rules;
      put = search rules;
      length_told = search rules;
    }
