-- Which envelopes `==` does not tell apart.
use Rattle.std.specs.Prelude.{◌≡◌, List, [], ◌∷◌, ⊤}
use Rattle.sentry_items.specs.Alike.{HasStoredAddress, HoldsNoTree, AreAlike}
use Rattle.sentry_items.specs.View.{item_held}
use Rattle.sentry_items.specs.declared.item.EnvelopeItem.{EnvelopeItem}
use Rattle.sentry_envelope.specs.EnvelopeView.{header_of, items_in}
use Rattle.sentry_envelope.specs.declared.envelope.Contents.{Contents}
use Rattle.sentry_envelope.specs.declared.envelope.Contents.TheVariants as variants
use Rattle.sentry_envelope.specs.declared.envelope.Envelope.{Envelope}

abbrev pub EachHoldsNoTree : List EnvelopeItem → Type 0
EachHoldsNoTree [] = ⊤
EachHoldsNoTree (item ∷ items) = HoldsNoTree (item_held item) × EachHoldsNoTree items

-- no tree of JSON stands in its items: of `==` on trees nothing is said
abbrev pub HasNoTree : Envelope → Type 0
HasNoTree e = EachHoldsNoTree (items_in e.contents)

abbrev pub EachHasStoredAddress : List EnvelopeItem → Type 0
EachHasStoredAddress [] = ⊤
EachHasStoredAddress (item ∷ items) = HasStoredAddress item × EachHasStoredAddress items

-- the addresses of users that its items tell have numbers in range, as every address of a program
abbrev pub HasStoredAddresses : Envelope → Type 0
HasStoredAddresses e = EachHasStoredAddress (items_in e.contents)

-- as many items, alike one by one
abbrev pub EachAlike : List EnvelopeItem → List EnvelopeItem → Type 0
EachAlike [] [] = ⊤
EachAlike (x ∷ xs) (y ∷ ys) = AreAlike x y × EachAlike xs ys
EachAlike _ _ = ⊥

-- items that are alike, or the same bytes
abbrev pub HoldAlike : Contents → Contents → Type 0
HoldAlike (variants.Items xs) (variants.Items ys) = EachAlike xs.items ys.items
HoldAlike (variants.Raw a) (variants.Raw b) = a.items ≡ b.items
HoldAlike _ _ = ⊥

-- the same header, and items that are alike, or the same bytes
abbrev pub AreEnvelopesAlike : Envelope → Envelope → Type 0
AreEnvelopesAlike a b = (header_of a ≡ header_of b) × HoldAlike a.contents b.contents
