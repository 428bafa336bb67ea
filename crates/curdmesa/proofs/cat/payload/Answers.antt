use Rattle.std.proofs.Common.{◌≡◌, arith, true, false, refl, [], ◌∷◌, ◌++◌, length-append}
use Rattle.std.proofs.lemmas.Result.{err_from_is_err_and}
use Rattle.sentry_framing.proofs.Verdicts.{frame_shorter}
use Rattle.sentry_forward.specs.AnyHeader.{any_reading}
use Rattle.sentry_forward.specs.View.{any_frame}
use Rattle.curdmesa.proofs.CatLemmas.{frames_more, refused}
use Rattle.curdmesa.proofs.cat.payload.Goals as goal

pub returns-then-left-eq1-clause-payload : goal.returns-then-left-eq1-clause-payload
returns-then-left-eq1-clause-payload c =
    let read = c.loop-next.invariant.read in
    record {
      before = read.0;
      frame = any_frame c.in_ok-frame.frame;
      rest = c.next_frame.new.self.rest;
      stand = frames_more _ read.0 (any_frame c.in_ok-frame.frame) _ _ read.1 (rw c.in_ok-frame.was at c.in-Some.ensures.frame);
      numbered = omega (arith, read.2, c.if-left-eq1.true);
      payload_is = refl;
    }

pub loop-next-preserved-else-left-eq1 : goal.loop-next-preserved-else-left-eq1
loop-next-preserved-else-left-eq1 c =
    let read = c.loop-next.invariant.read in
    let frame = any_frame c.in_ok-frame.frame in
    record {
      some = omega (arith, c.loop-next.invariant.some, c.if-left-eq1.false);
      read = (read.0 ++ frame ∷ [], frames_more _ read.0 frame _ _ read.1 (rw c.in_ok-frame.was at c.in-Some.ensures.frame), omega (arith, read.2, length-append read.0 (frame ∷ []), c.loop-next.invariant.some));
    }

pub loop-next-preserved : goal.loop-next-preserved
loop-next-preserved c =
    let read = c.loop-next.invariant.read in
    let frame = any_frame c.in_ok-frame.frame in
    record {
      some = omega (arith, c.loop-next.invariant.some, c.if-left-eq1.false);
      read = (read.0 ++ frame ∷ [], frames_more _ read.0 frame _ _ read.1 (rw c.in_ok-frame.was at c.in-Some.ensures.frame), omega (arith, read.2, length-append read.0 (frame ∷ []), c.loop-next.invariant.some));
    }

pub loop-next-smaller-else-left-eq1 : goal.loop-next-smaller-else-left-eq1
loop-next-smaller-else-left-eq1 c = frame_shorter any_reading _ (any_frame c.in_ok-frame.frame) _ (rw c.in_ok-frame.was at c.in-Some.ensures.frame)

pub loop-next-smaller : goal.loop-next-smaller
loop-next-smaller c = frame_shorter any_reading _ (any_frame c.in_ok-frame.frame) _ (rw c.in_ok-frame.was at c.in-Some.ensures.frame)

pub returns-in_err-frame-clause-refused : goal.returns-in_err-frame-clause-refused
returns-in_err-frame-clause-refused c =
    let read = c.loop-next.invariant.read in
    let p = err_from_is_err_and c.from_residual-in_err-frame.result c.from_residual-in_err-frame.ensures.1 in
    let remains : c.loop-next.frames.rest ≡ [] → ⊥ = λ none. let e : true ≡ false = c.in-Some.ensures.none.1 none in cc in
    rw (p.1, p.2) (λ known. refused _ read.0 _ _ read.1 remains ((rw c.in_err-frame.was at c.in-Some.ensures.fault) known))
