-- The nodes of a tree, in lists and under keys.
use Rattle.std.specs.Prelude.{List, [], ◌∷◌}
use Rattle.serde_json.specs.Data.{Data, object, Items, no_items, item, Members, no_members, put}
use Rattle.sentry_json.specs.declared.object.Named.{Named}
use Rattle.sentry_json.specs.declared.object.Object.{Object}

-- the data of a list of nodes
abbrev pub items_data : {N : Type 0} → (N → Data) → List N → Items
items_data data_of [] = no_items
items_data data_of (x ∷ xs) = item (data_of x) (items_data data_of xs)

-- the members that come, put one after the other among those before
abbrev pub named_after : {N : Type 0} → (N → Data) → Members → List (Named N) → Members
named_after data_of before [] = before
named_after data_of before (m ∷ ms) = named_after data_of (put m.key.now (data_of m.node) before) ms

-- the members that come, put one after the other
abbrev pub named_by : {N : Type 0} → (N → Data) → List (Named N) → Members
named_by data_of ms = named_after data_of no_members ms

-- the tree of an object whose members were walked
abbrev pub object_data : {N : Type 0} → (N → Data) → Object N → Data
object_data data_of o = object (named_by data_of o.members.items)
