use Rattle.std.proofs.Common.{rules}
use Rattle.serde_json.proofs.Views.{view-Array}
use Rattle.sentry_tables.proofs.Tokens.{pair_tree_is}
use Rattle.sentry_tables.proofs.leaves.Tuple2U64U64Member.to_tree.Goals as goal

pub returns : goal.returns
returns c = pair_tree_is c.args.self.now.0 c.args.self.now.1 _ c.push-2.new.self.items c.from.result c.from-2.result (view-Array c.push-2.new.self) (search rules) (search rules) (search rules)
