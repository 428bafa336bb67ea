use Rattle.std.proofs.Common.{sym}
use Rattle.sentry_envelope.proofs.FilterLemmas.{filters_with_main, filters_without_main}
use Rattle.sentry_envelope.proofs.filtering.filter_items.Goals as goal

pub returns-then-has_main-clause-filters : goal.returns-then-has_main-clause-filters
returns-then-has_main-clause-filters g c = filters_with_main _ _ _ _ _ _ c.ask_each-chosen.ensures.asks (rw c.deref.ensures.value at (sym c.if-has_main.ensures))

pub returns-clause-filters : goal.returns-clause-filters
returns-clause-filters g c =
    filters_without_main _ _ _ _ _ _ _ _ c.ask_each-chosen.ensures.asks (rw c.deref.ensures.value at (sym c.if-has_main.ensures)) c.hand_orphans.ensures.hands c.hand_orphans.ensures.others
