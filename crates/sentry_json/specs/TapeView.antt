-- What nodes of a tape mean, and what a tape answers.
use Rattle.std.specs.Prelude.{◌≡◌, ℕ, List, Some, None, ⊤}
use Rattle.serde_json.specs.Data.{Data}
use Rattle.sentry_json.specs.declared.tape.Parsed.{Parsed}
use Rattle.sentry_json.specs.declared.tape.Parsed.TheVariants as parsed
use Rattle.sentry_json.specs.declared.tape.node.TapeNode.{TapeNode}
use Rattle.sentry_json.specs.Line.{tree_of}
use Rattle.sentry_json.specs.Tokens.{tokens_value}

-- the tree at the node
abbrev pub node_data : TapeNode → Data
node_data node = tokens_value node.tokens.now

-- the root that was parsed has the line's tree; of one with a float, there is none
abbrev pub IsParsed : Parsed → List ℕ → Type 0
IsParsed (parsed.Root root) line = tree_of line ≡ Some (node_data root)
IsParsed parsed.Float line = tree_of line ≡ None
IsParsed parsed.Other line = ⊤
