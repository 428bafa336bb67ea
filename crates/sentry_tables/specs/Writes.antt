-- What a value writes: its tree, or the tokens of its text.
use Rattle.std.specs.Prelude.{◌≡◌, List, [], ◌∷◌, ◌++◌, false}
use Rattle.json.specs.Token.{Token}
use Rattle.json.specs.Tree.{json_tokens}
use Rattle.json.specs.Written.{Written}
use Rattle.serde_json.specs.Data.{Data, Items, no_items, item, Members, no_members, member}
use Rattle.serde_json.specs.Written.{has_float, items_have_float, members_have_float, outline}
use Rattle.sentry_tables.specs.Cell.{Cell}
use Rattle.sentry_tables.specs.Kind.{Kind}
use Rattle.sentry_tables.specs.Written.{tree}

-- the tree of a value
unfoldable pub written : Kind → Cell → Data
written K c = tree K c

-- the tokens of a tree's text
unfoldable pub tokens_of : Data → List Token
tokens_of d = json_tokens (outline d)

-- the tokens of items, without the brackets round them
abbrev pub item_tokens : Items → List Token
item_tokens no_items = []
item_tokens (item d ds) = tokens_of d ++ item_tokens ds

-- the tokens of members, without the braces round them
abbrev pub member_tokens : Members → List Token
member_tokens no_members = []
member_tokens (member k d ms) = Token.key k ∷ (tokens_of d ++ member_tokens ms)

-- the writer goes on with these tokens
abbrev pub Continues : Written → Written → List Token → Type 0
Continues old new ts = (new.before ≡ old.before) × (new.tokens ≡ old.tokens ++ ts)

-- the writer goes on with the text of the tree, if no number in it is held as a float
unfoldable pub WritesTree : Data → Written → Written → Type 0
WritesTree d old new = has_float d ≡ false → Continues old new (tokens_of d)

-- the writer goes on with these items, if no number in them is held as a float
unfoldable pub WritesItems : Items → Written → Written → Type 0
WritesItems ds old new = items_have_float ds ≡ false → Continues old new (item_tokens ds)

-- the writer goes on with these members, if no number in them is held as a float
unfoldable pub WritesMembers : Members → Written → Written → Type 0
WritesMembers ms old new = members_have_float ms ≡ false → Continues old new (member_tokens ms)
