-- What a header's fields say of the length that it states.
use Rattle.std.proofs.Common.{◌≡◌, ℕ, List, Some, None, option_map, ap}
use Rattle.sentry_framing.specs.ItemHeader.{Header, read_header, stated_length}

module _ (words : List (List ℕ)) (header : List ℕ) where
  pub states : (h : Header) → read_header words header ≡ Some h → stated_length words header ≡ Some h.length
  unfolding stated_length
  states h e = ap (option_map (λ (g : Header). g.length)) e

  pub states_none : read_header words header ≡ None → stated_length words header ≡ None
  unfolding stated_length
  states_none e = ap (option_map (λ (g : Header). g.length)) e
