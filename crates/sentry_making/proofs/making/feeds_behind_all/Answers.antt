use Rattle.std.proofs.Common.{◌++◌, ◌∷◌, []}
use Rattle.sentry_forward.specs.AnyHeader.{any_reading}
use Rattle.sentry_forward.specs.View.{any_frame}
use Rattle.sentry_making.proofs.Behind.{due_more}
use Rattle.sentry_making.proofs.Framed.{one_more}
use Rattle.sentry_making.proofs.making.feeds_behind_all.Goals as goal

pub loop-next-preserved-in_ok-frame : goal.loop-next-preserved-in_ok-frame
loop-next-preserved-in_ok-frame c =
    let inv = c.loop-next.invariant in
    let f = any_frame c.in_ok-frame.frame in
    let first = rw c.in_ok-frame.was at c.in-Some.ensures.frame in
    let more = rw inv.body_is at (c.feeds_behind-feeds.ensures.more any_reading) in
    record {
      body_is = c.rest-body-in-Some.ensures;
      stand = (inv.stand.0 ++ f ∷ [], one_more any_reading _ _ _ inv.stand.0 f inv.stand.1 first);
      due = λ bytes line h given. due_more bytes line _ h _ _ _ _ f (inv.due bytes line h given) first c.feeds_behind-feeds.ensures.feeds more;
    }

pub loop-next-preserved : goal.loop-next-preserved
loop-next-preserved c =
    let inv = c.loop-next.invariant in
    let f = any_frame c.in_ok-frame.frame in
    let first = rw c.in_ok-frame.was at c.in-Some.ensures.frame in
    let more = rw inv.body_is at (c.feeds_behind-feeds.ensures.more any_reading) in
    record {
      body_is = c.rest-body-in-Some.ensures;
      stand = (inv.stand.0 ++ f ∷ [], one_more any_reading _ _ _ inv.stand.0 f inv.stand.1 first);
      due = λ bytes line h given. due_more bytes line _ h _ _ _ _ f (inv.due bytes line h given) first c.feeds_behind-feeds.ensures.feeds more;
    }
