-- Values that don't fit, and texts about them.
use Rattle.std.specs.Prelude.{◌≡◌, ◌++◌, ℕ, List}
use Rattle.sentry_places.specs.declared.note.Place.{Place}
use Rattle.sentry_c.specs.Texts.{IsAt}
use Rattle.sentry_c.specs.declared.misfit.CurdmesaMisfit.{CurdmesaMisfit}
use Rattle.sentry_c.specs.declared.texts.CurdmesaPlace.{CurdmesaPlace}

-- more bytes stand behind these
abbrev pub IsGrown : List ℕ → List ℕ → Type 0
IsGrown old new = (more : List ℕ) × (new ≡ old ++ more)

-- some text stands at a place
abbrev pub HasText : List ℕ → CurdmesaPlace → Type 0
HasText texts place = (part : List ℕ) × IsAt texts place part

-- The bytes of the value, its path and what stands there, and texts of what is wanted and found.
pub record TellsPlace (texts : List ℕ) (misfit : CurdmesaMisfit) (place : Place) : Type 0 where
  pub start : misfit.start ≡ place.start
  pub end : misfit.end ≡ place.end
  pub path : IsAt texts misfit.path place.path.items
  pub wanted : HasText texts misfit.wanted
  pub found : HasText texts misfit.found
  pub value : IsAt texts misfit.value place.value.items
