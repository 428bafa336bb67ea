use Rattle.std.proofs.Common.{◌≡◌, None, rules}
use Rattle.sentry_json.specs.Line.{tree_of}
use Rattle.sentry_tables.specs.declared.error.TreeError.TheVariants.{Misfit}
use Rattle.sentry_tables.proofs.Passing.{line_unread_at}
use Rattle.sentry_envelope.proofs.timed.pass_at.Goals as goal

pub returns-in-Float : goal.returns-in-Float
returns-in-Float g c =
    let none : tree_of c.args.line.now ≡ None = search rules in
    line_unread_at _ _ _ Misfit none
