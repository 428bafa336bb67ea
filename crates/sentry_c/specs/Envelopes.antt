-- What calls on envelopes write.
use Rattle.std.specs.Prelude.{ℕ, Bool, List, Option, Some, None}
use Rattle.sentry_tables.specs.Cell.{Cell}
use Rattle.sentry_envelope.specs.Envelope.{Envelope as Model, Spells}
use Rattle.sentry_envelope.specs.FilteredText.{IsTextOfLeft}
use Rattle.sentry_envelope.specs.SentryProfile.{profile}
use Rattle.sentry_reports.specs.declared.item_loss.ItemLoss.{ItemLoss}
use Rattle.sentry_c.specs.Kinds.{is_wanted}
use Rattle.sentry_c.specs.Losses.{IsRowOfLosses}

-- some envelope is spelled by the bytes at the moment
abbrev pub IsSpelled : List ℕ → Cell → Type 0
IsSpelled bytes now = (envelope : Model) × Spells profile bytes now envelope

-- This is the text of what the filter by kinds leaves of an envelope that the bytes spell at the
-- moment, if it leaves an item, and the sums are those of what is lost with the items that it takes
-- out.
pub record Leaves (bytes : List ℕ) (now : Cell) (kinds : ℕ) (keep keep_headers : Bool) (sums : List ℕ) (text : Option (List ℕ)) : Type 0 where
  pub losses : List ItemLoss
  pub left : IsTextOfLeft (is_wanted kinds keep) keep_headers bytes now text losses
  pub sums_are : IsRowOfLosses sums losses

-- the text of what the filter leaves, which is not nothing
abbrev pub IsLeft : List ℕ → Cell → ℕ → Bool → Bool → List ℕ → List ℕ → Type 0
IsLeft bytes now kinds keep keep_headers sums text = Leaves bytes now kinds keep keep_headers sums (Some text)

-- the filter leaves no item
abbrev pub LeavesNothing : List ℕ → Cell → ℕ → Bool → Bool → List ℕ → Type 0
LeavesNothing bytes now kinds keep keep_headers sums = Leaves bytes now kinds keep keep_headers sums None
