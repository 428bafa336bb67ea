use Rattle.sentry_keys.proofs.AuthTrees.{auth_plain, auth_stored}
use Rattle.sentry_keys.proofs.auth.tree.AuthMember.is_plain.Goals as goal

pub returns : goal.returns
returns c = record {
  plain = (λ t. auth_plain c.args.self.now, λ h. c.is_plain.ensures.plain.1 tt);
  stored = λ t. auth_stored c.args.self.now (c.is_plain.ensures.stored t);
}
