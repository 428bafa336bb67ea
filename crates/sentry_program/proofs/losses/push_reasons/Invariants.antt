use Rattle.std.proofs.Common.{◌≡◌, ◌++◌, take, string_bytes, Some}
use Rattle.std.specs.List.{flat_map}
use Rattle.sentry_ledger.specs.LossSums.{sum_at}
use Rattle.sentry_program.specs.Table.{line_of}
use Rattle.sentry_program.proofs.losses.push_reasons.Given as goal

abbrev pub invariant-loop-reason : goal.invariant-loop-reason
invariant-loop-reason l =
    string_bytes l.text ≡ string_bytes l.initial.text ++ flat_map (λ reason. line_of l.category (Some reason) (sum_at l.sums l.category (Some reason))) (take l.reason-index l.reasons)
