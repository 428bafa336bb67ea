use Rattle.std.proofs.Common.{refl}
use Rattle.sentry_keys.proofs.auth.tree.AuthTable.rows.Goals as goal

pub returns : goal.returns
returns g c = (_, c.optional_or_null.ensures, (_, c.required.ensures, (_, c.optional_or_null-2.ensures, (_, c.required-2.ensures, refl))))
