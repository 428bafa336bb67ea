use Rattle.std.proofs.Common.{◌≡◌, ℕ, List, length, map, Some}
use Rattle.std.specs.List.{flat_map}
use Rattle.sentry_reports.specs.Categories.{categories, reasons}
use Rattle.sentry_reports.specs.declared.kept_sums.TheConstants.{PAIRS}
use Rattle.sentry_c.specs.Recording.{RecordsOn, loss_in, losses_in}
use Rattle.sentry_c.proofs.recording.add_reasons.Given as goal

-- what records the losses that are left from here on, records all
abbrev pub invariant-loop-own : goal.invariant-loop-own
invariant-loop-own l =
    (length l.ledger ≡ PAIRS)
    × ((last : List ℕ) (refused : ℕ) → RecordsOn l.ledger last l.reason l.refused refused (map (λ own. loss_in l.losses l.category (Some own)) l.left)
    → RecordsOn l.initial.ledger last l.reason l.initial.refused refused (map (λ own. loss_in l.losses l.category (Some own)) reasons))

abbrev pub decreases-loop-own : goal.decreases-loop-own
decreases-loop-own l = length l.left
