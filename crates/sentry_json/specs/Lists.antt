-- Lines that are an object of one member, an array, and visitors of its items.
use Rattle.std.specs.Prelude.{◌≡◌, ℕ, List, [], ◌∷◌, Some}
use Rattle.serde_json.specs.Data.{Data, array, object, no_members, member}
use Rattle.sentry_json.specs.Line.{tree_of}
use Rattle.sentry_json.specs.Nodes.{items_data}

-- an object of one member, the array of these items
abbrev pub list_at : List ℕ → List Data → Data
list_at key items = object (member key (array (items_data (λ d. d) items)) no_members)

-- a visitor comes from the first state to the last by the items, one after the other
abbrev pub VisitsAll : {S : Type 0} → (S → Data → S → Type 0) → S → List Data → S → Type 0
VisitsAll visits first [] last = first ≡ last
VisitsAll visits first (d ∷ ds) last = (next : _) × visits first d next × VisitsAll visits next ds last

-- the line is such an object, and by its items the visitor comes from the first state to the last
abbrev pub VisitsLine : {S : Type 0} → (S → Data → S → Type 0) → List ℕ → List ℕ → S → S → Type 0
VisitsLine visits key line first last = (items : List Data) × (tree_of line ≡ Some (list_at key items)) × VisitsAll visits first items last
