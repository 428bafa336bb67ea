use Rattle.std.proofs.Common.{rules}
use Rattle.sentry_c.proofs.Rowed.{some_faults_at}
use Rattle.sentry_c.proofs.explaining.curdmesa_envelope_explain.Goals as goal

pub returns-then-not-deliver-clause-no_room : goal.returns-then-not-deliver-clause-no_room
returns-then-not-deliver-clause-no_room c = λ _.
    record {
      text = c.deref.result.now;
      meant = some_faults_at c.args.bytes.now c.in-Some.now c.args.now_secs c.args.now_nanos c.args.faults.now c.in-Ok.told c.deref.result.now c.in-Some.ensures.same.0 c.in-Some.ensures.same.1 c.deref.ensures.value c.in-Ok.ensures;
      longer = search rules;
      length_told = search rules;
    }
