use Rattle.std.proofs.Common.{◌≡◌, ℕ, List, length, map, Some}
use Rattle.std.specs.List.{flat_map}
use Rattle.sentry_reports.specs.Categories.{categories, reasons}
use Rattle.sentry_reports.specs.declared.kept_sums.TheConstants.{PAIRS}
use Rattle.sentry_c.specs.Recording.{RecordsOn, loss_in, losses_in}
use Rattle.sentry_c.proofs.recording.add_losses.Given as goal

-- what records the losses that are left from here on, records all
abbrev pub invariant-loop-category : goal.invariant-loop-category
invariant-loop-category l =
    (length l.ledger ≡ PAIRS)
    × ((last : List ℕ) (refused : ℕ) → RecordsOn l.ledger last l.reason l.refused refused (flat_map (losses_in l.losses) l.left)
    → RecordsOn l.initial.ledger last l.reason l.initial.refused refused (flat_map (losses_in l.losses) categories))

abbrev pub decreases-loop-category : goal.decreases-loop-category
decreases-loop-category l = length l.left
