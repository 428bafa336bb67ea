-- What is lost with items.
use Rattle.std.specs.Prelude.{◌≡◌, ℕ, List}
use Rattle.sentry_forward.specs.declared.frames.AnyFrame.{AnyFrame}
use Rattle.sentry_ledger.specs.FrameLosses.{AreLossesOfAll}
use Rattle.sentry_reports.specs.declared.item_loss.ItemLoss.{ItemLoss}
use Rattle.sentry_program.specs.Table.{table_of}

-- the table of what is lost with the items of these frames
pub record IsLossTable (frames : List AnyFrame) (table : List ℕ) : Type 0 where
  pub losses : List ItemLoss
  pub lost : AreLossesOfAll frames losses
  pub table_is : table ≡ table_of losses
