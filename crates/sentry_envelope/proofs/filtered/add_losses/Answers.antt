use Rattle.sentry_envelope.specs.FilteredText.{IsLost}
use Rattle.sentry_envelope.proofs.FrameItems.{alone_shown, some_there}
use Rattle.sentry_envelope.proofs.filtered.add_losses.Goals as goal

pub unwrap-item-requires : goal.unwrap-item-requires
unwrap-item-requires g c = c.pop.ensures.variant.1 (some_there _ _ c.add_item.new.items (rw c.in_ok-items.ensures.items at c.in_ok-add_item.ensures.ok))

pub returns-clause-ok : goal.returns-clause-ok
unfolding IsLost
returns-clause-ok g c = (
  c.unwrap-item.result,
  alone_shown _ _ _ _ _ (rw c.in_ok-items.ensures.items at c.in_ok-add_item.ensures.ok) (rw c.unwrap-item.ensures at c.pop.ensures.items),
  c.in_ok-push_losses.ensures,
)
