use Rattle.sentry_ledger.proofs.HeldLemmas.{zeros_hold_nothing, nothing_is_zeros}
use Rattle.sentry_ledger.proofs.held_row.holds_nothing.Goals as goal

pub returns : goal.returns
returns c = (
  λ zeros. zeros_hold_nothing c.args.row.now c.requires (c.are_zeros.ensures.0 zeros),
  λ nothing. c.are_zeros.ensures.1 (nothing_is_zeros c.args.row.now c.requires nothing),
)
