use Rattle.std.proofs.Common.{rules, arith, ◌++◌, take}
use Rattle.std.proofs.lemmas.Grind.{common_steps}
use Rattle.std.proofs.KnownBytes.{Appends-trans}
use Rattle.sentry_framing.proofs.sending.send_counting.Goals as goal

pub loop-rest-preserved : goal.loop-rest-preserved
loop-rest-preserved g c =
    let sent = c.loop-rest.invariant.sent in
    record {
      no_failure = search rules;
      sent = (sent.0 ++ take c.in-Ok.count c.loop-rest.rest.now, grind (arith, common_steps), Appends-trans _ _ _ _ _ sent.2 c.in-Ok.ensures.bytes);
    }
