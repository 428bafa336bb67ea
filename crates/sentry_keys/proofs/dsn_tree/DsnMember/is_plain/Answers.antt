use Rattle.std.proofs.Common.{refl}
use Rattle.sentry_keys.specs.Dsn.{dsn_parts}
use Rattle.sentry_keys.proofs.dsn_tree.DsnMember.is_plain.Goals as goal

pub returns-clause-stored : goal.returns-clause-stored
returns-clause-stored c = λ _. (dsn_parts c.args.self.now, refl, c.hold.ensures)
