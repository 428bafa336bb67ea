-- What is left of an envelope after an answer for each item, and what is lost with the others.
use Rattle.std.specs.Prelude.{◌≡◌, ◌≢◌, ℕ, Bool, List, length, vec_len}
use Rattle.sentry_forward.specs.View.{text_of}
use Rattle.sentry_forward.specs.declared.forwarding.Forwarded.{Forwarded}
use Rattle.sentry_ledger.specs.declared.loss_sums.LossSums.{LossSums}
use Rattle.sentry_c.specs.Forwarding.{IsForwardedAs}
use Rattle.sentry_c.specs.Losses.{SumsFrames}

-- The envelope is forwarded by these answers, one for each frame, and these are the sums of what is
-- lost with the frames that are dropped.
pub record Forwards (bytes keep : List ℕ) (follow : Bool) (sums : LossSums) (result : Forwarded) : Type 0 where
  pub forwarded : IsForwardedAs bytes keep follow result
  pub each : result.items ≡ length keep
  pub lost : SumsFrames result.dropped.items sums

-- the text of what is left, which is an item at least
abbrev pub IsTextLeft : List ℕ → List ℕ → Bool → LossSums → List ℕ → Type 0
IsTextLeft bytes keep follow sums text = (result : Forwarded) × Forwards bytes keep follow sums result × (vec_len result.dropped ≢ result.items) × (text ≡ text_of result)

abbrev pub LeavesNoItem : List ℕ → List ℕ → Bool → LossSums → Type 0
LeavesNoItem bytes keep follow sums = (result : Forwarded) × Forwards bytes keep follow sums result × (vec_len result.dropped ≡ result.items)

-- the same, with the sums in a row
abbrev pub IsTextLeftBy : List ℕ → List ℕ → Bool → List ℕ → List ℕ → Type 0
IsTextLeftBy bytes keep follow row text = (sums : LossSums) × (row ≡ sums.row) × IsTextLeft bytes keep follow sums text

abbrev pub LeavesNoItemBy : List ℕ → List ℕ → Bool → List ℕ → Type 0
LeavesNoItemBy bytes keep follow row = (sums : LossSums) × (row ≡ sums.row) × LeavesNoItem bytes keep follow sums
