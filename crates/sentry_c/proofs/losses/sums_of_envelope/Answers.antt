use Rattle.std.proofs.Common.{List, subst}
use Rattle.sentry_forward.specs.declared.frames.AnyFrame.{AnyFrame}
use Rattle.sentry_c.specs.Losses.{SumsFrames}
use Rattle.sentry_c.proofs.Dropping.{sums_envelope}
use Rattle.sentry_c.proofs.losses.sums_of_envelope.Goals as goal

pub returns-in_ok-sums_of_frames-in-Ok-clause-lost : goal.returns-in_ok-sums_of_frames-in-Ok-clause-lost
returns-in_ok-sums_of_frames-in-Ok-clause-lost c =
    let sums = c.in_ok-sums_of_frames-in-Ok.field-0 in
    sums_envelope c.args.bytes.now c.new.result.attachments_follow c.in-Ok.left sums c.new.ensures.kept c.in-Ok.ensures.forwarded (subst (λ (frames : List AnyFrame). SumsFrames frames sums) c.deref.ensures.value c.in_ok-sums_of_frames-in-Ok.ensures)
