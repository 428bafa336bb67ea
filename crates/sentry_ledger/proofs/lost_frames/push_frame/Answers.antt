use Rattle.std.proofs.Common.{◌≡◌, false, rules}
use Rattle.sentry_framing.specs.ItemWords.{kind_of_word}
use Rattle.sentry_forward.specs.View.{any_frame, word_of}
use Rattle.sentry_items.specs.Losses.{losses_of_item}
use Rattle.sentry_ledger.specs.FrameLosses.{depends_on_payload}
use Rattle.sentry_ledger.proofs.LostFrames.{losses_by_type, losses_of_shown}
use Rattle.sentry_ledger.proofs.lost_frames.push_frame.Goals as goal

pub returns-then-not-depends_on_payload : goal.returns-then-not-depends_on_payload
returns-then-not-depends_on_payload c =
    let told : depends_on_payload (kind_of_word (word_of c.args.frame.now)) ≡ false = search rules in
    (_, c.in_ok-push_by_type.ensures, λ named. losses_by_type c.args.frame.now named told)

pub returns-in_ok-pushed-in-Some : goal.returns-in_ok-pushed-in-Some
returns-in_ok-pushed-in-Some c =
    let read = rw c.in-Some.is at c.in_ok-item.ensures.shown in
    (losses_of_item c.in-Some.item, c.in_ok-pushed-in-Some.ensures, λ named. losses_of_shown (any_frame c.args.frame.now) (word_of c.args.frame.now) read.0 c.in-Some.item read.1)
