use Rattle.std.proofs.Common.{inr, List, subst}
use Rattle.sentry_forward.specs.declared.frames.AnyFrame.{AnyFrame}
use Rattle.sentry_c.specs.Losses.{SumsFrames}
use Rattle.sentry_c.proofs.forwarding.left_of.Goals as goal

pub returns-then-left-keep-clause-other : goal.returns-then-left-keep-clause-other
returns-then-left-keep-clause-other c = λ _. inr (c.args.keep.now, c.args.attachments_follow, c.in_ok-left.left, c.in_ok-left.ensures.forwarded, c.if-left-keep.true)

pub returns-clause-left : goal.returns-clause-left
returns-clause-left c = record {
  forwarded = c.in_ok-left.ensures.forwarded;
  each = c.if-left-keep.false;
  lost = subst (λ (frames : List AnyFrame). SumsFrames frames c.in_ok-sums.sums) c.deref.ensures.value c.in_ok-sums.ensures;
}
