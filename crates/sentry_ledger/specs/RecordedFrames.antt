-- The losses of frames that are dropped, as steps of a ledger.
use Rattle.std.specs.Prelude.{◌≡◌, ◌≢◌, ◌≤◌, ℕ, Bool, List}
use Rattle.sentry_framing.specs.declared.error.EnvelopeError.TheVariants.{OutOfMemory}
use Rattle.sentry_forward.specs.View.{IsForwarded, IsOver, IsRefused}
use Rattle.sentry_forward.specs.declared.error.ForwardError.{ForwardError}
use Rattle.sentry_forward.specs.declared.error.ForwardError.TheVariants.{TooManyItems, Envelope}
use Rattle.sentry_forward.specs.declared.forwarding.ForwardRules.{ForwardRules}
use Rattle.sentry_forward.specs.declared.forwarding.Forwarded.{Forwarded}
use Rattle.sentry_forward.specs.declared.frames.AnyFrame.{AnyFrame}
use Rattle.sentry_reports.specs.declared.item_loss.ItemLoss.{ItemLoss}
use Rattle.sentry_reports.specs.declared.reason.Reason.{Reason}
use Rattle.sentry_ledger.specs.FrameLosses.{AreLossesOfAll}
use Rattle.sentry_ledger.specs.Recorded.{Records}
use Rattle.sentry_ledger.specs.declared.forwarded.ForwardFailed.{ForwardFailed}
use Rattle.sentry_ledger.specs.declared.forwarded.ForwardFailed.TheVariants.{Refused, Unrecorded}
use Rattle.sentry_ledger.specs.declared.ledger.Ledger.{Ledger}

-- a ledger records the losses of frames, one after another; so many are refused
pub record RecordsFrames (old new : Ledger) (reason : Reason) (frames : List AnyFrame) (refused : ℕ) : Type 0 where
  pub losses : List ItemLoss
  pub are : AreLossesOfAll frames losses
  pub records : Records old new reason losses refused

-- the envelope in these bytes is forwarded by these rules, and a filter goes from one state to another
pub record IsForwardedBy {F : Type 0} (ask : F → AnyFrame → Bool → F → Type 0) (rules : ForwardRules) (bytes : List ℕ) (first last : F) (left : Forwarded) : Type 0 where
  pub forwarded : IsForwarded ask rules.attachments_follow bytes first last left
  pub bounded : left.items ≤ rules.max_items

-- the bytes are refused with this error
abbrev pub IsRefusedBy : ForwardRules → List ℕ → ForwardError → Type 0
IsRefusedBy rules bytes TooManyItems = IsOver bytes rules.max_items
IsRefusedBy rules bytes (Envelope error) = error ≢ OutOfMemory → IsRefused bytes error

-- why no loss is recorded: the bytes are refused and nothing is asked, or what is forwarded of them
-- is handed back
abbrev pub IsUnrecorded : {F : Type 0} → (F → AnyFrame → Bool → F → Type 0) → ForwardRules → List ℕ → F → F → ForwardFailed → Type 0
IsUnrecorded ask rules bytes first last (Refused error) = IsRefusedBy rules bytes error × (last ≡ first)
IsUnrecorded ask rules bytes first last (Unrecorded left) = IsForwardedBy ask rules bytes first last left
