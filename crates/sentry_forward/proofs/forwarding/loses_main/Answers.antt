use Rattle.std.proofs.Common.{◌<◌, rules, false, length, sym}
use Rattle.std.proofs.lemmas.List.{drop_more}
use Rattle.sentry_forward.proofs.Losing.{at_next, beside, lost_one}
use Rattle.sentry_forward.proofs.forwarding.loses_main.Goals as goal
use Rattle.sentry_forward.proofs.forwarding.loses_main.Goals.{then-is_main+else-answers-i, else-is_main}

pub loop-i-preserved : goal.loop-i-preserved
loop-i-preserved c =
    let more : c.loop-i.i < length c.args.frames.now = search rules in
    let told : c.loop-i.i < length c.args.answers.now = search rules in
    let frame = at_next c.args.frames.now c.loop-i.i c.index-frames-i.result more c.index-frames-i.is in
    let answer = drop_more c.args.answers.now c.loop-i.i false told in
    elim c.if-is_main.branch [
      | then-is_main+else-answers-i w ↦
          rw w.lost-is (lost_one c.args.frames.now c.args.answers.now c.loop-i.lost _ _ c.loop-i.invariant c.index-frames-i.result _ _ _ frame answer (sym w.if-is_main.ensures) w.if-answers-i.false)
      | else-is_main w ↦
          rw w.lost-is (beside c.args.frames.now c.args.answers.now c.loop-i.lost _ _ c.loop-i.invariant c.index-frames-i.result _ _ _ frame answer (sym w.if-is_main.ensures))
    ]
