use Rattle.std.proofs.Common.{refl}
use Rattle.sentry_parts.specs.Users.{user_fields}
use Rattle.sentry_parts.proofs.user.UserKeptTable.read.Goals as goal

pub returns : goal.returns
unfolding user_fields
returns g c = (_, (_, c.optional.ensures, (_, c.optional-2.ensures, (_, c.optional-3.ensures, (_, c.optional-4.ensures, refl)))), rw c.names.ensures at c.others.ensures)
