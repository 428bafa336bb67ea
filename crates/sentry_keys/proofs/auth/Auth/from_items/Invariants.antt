use Rattle.std.proofs.Common.{List, ℕ, ◌≡◌}
use Rattle.std.specs.List.{filter_map}
use Rattle.std.specs.Str.Iter.{split_steps}
use Rattle.std.specs.Str.Pattern.{FindsChar}
use Rattle.std.proofs.lemmas.Iterator.{YieldsList}
use Rattle.sentry_keys.specs.Auth.{parts_of}
use Rattle.sentry_keys.specs.AuthText.{list_pairs, item_pair}
use Rattle.sentry_keys.proofs.AuthPairs.{IsTold}
use Rattle.sentry_keys.proofs.auth.Auth.from_items.Given as goal

-- the items that are left
abbrev pub invariant-loop-item : goal.invariant-loop-item
invariant-loop-item l =
    (items : List (List ℕ)) × YieldsList (split_steps FindsChar (λ a b. b ≡ a)) (λ x. x.now) l.item-iterator items × IsTold (list_pairs l.items) (filter_map item_pair items) (parts_of l.auth)
