-- Frames that are dropped.
use Rattle.std.proofs.Common.{◌≡◌, ℕ, Bool, true, false, List, [], ◌∷◌, sym, subst}
use Rattle.std.proofs.lemmas.List.Elements.{All-nil, All-cons, All-head, All-tail}
use Rattle.sentry_forward.specs.Forward.{dropped}
use Rattle.sentry_forward.specs.View.{AreNamed, IsForwarded}
use Rattle.sentry_forward.specs.declared.forwarding.Forwarded.{Forwarded}
use Rattle.sentry_forward.specs.declared.frames.AnyFrame.{AnyFrame}
use Rattle.sentry_ledger.specs.FrameLosses.{IsNamed}

all_dropped : (items : List AnyFrame) (decisions : List Bool) → AreNamed items → AreNamed (dropped items decisions)
all_dropped [] decisions named = named
all_dropped (item ∷ items) [] named = All-nil IsNamed
all_dropped (item ∷ items) (true ∷ decisions) named = all_dropped items decisions (All-tail IsNamed item items named)
all_dropped (item ∷ items) (false ∷ decisions) named =
    All-cons IsNamed item (dropped items decisions) (All-head IsNamed item items named) (all_dropped items decisions (All-tail IsNamed item items named))

-- those of an envelope that is forwarded tell what their headers say
pub dropped_named : {F : Type 0} (ask : F → AnyFrame → Bool → F → Type 0) (follow : Bool) (bytes : List ℕ) (first last : F) (left : Forwarded) → IsForwarded ask follow bytes first last left
    → AreNamed left.dropped.items
dropped_named ask follow bytes first last left forwarded = subst AreNamed (sym forwarded.gone) (all_dropped forwarded.frames _ forwarded.named)
