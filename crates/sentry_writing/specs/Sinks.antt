-- What a sink has taken, and what is left to be handed to it.
use Rattle.std.specs.Prelude.{ℕ, List, ◌∷◌, Option, Some, None, String}
use Rattle.std.specs.Borrow.{Bor}
use Rattle.std.specs.declared.alloc.Global.{Global}
use Rattle.serde_json.specs.Data.{Members, no_members, member, string}
use Rattle.serde_json.specs.View.{members_view}
use Rattle.serde_json.specs.declared.value.Value.{Value}
use Rattle.sentry_tables.specs.Kind.{tag}
use Rattle.sentry_writing.specs.declared.tree.TreeRows.{TreeRows}

-- the members of a tree, so far
abbrev pub members_so_far : TreeRows → Members
members_so_far rows = members_view rows.members.entries

-- the tag, where it is left
abbrev pub tag_left : Option (Bor (List ℕ)) → Members
tag_left None = no_members
tag_left (Some word) = member tag (string word.now) no_members

-- the members of a map that are left, the next of which was taken out
abbrev pub others_left : Option (Bor (String Global) × Bor Value) → List (String Global × Value) → Members
others_left None rest = no_members
others_left (Some next) rest = members_view ((next.0.now, next.1.now) ∷ rest)
