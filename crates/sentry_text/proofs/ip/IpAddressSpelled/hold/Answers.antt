use Rattle.sentry_text.proofs.IpTrees.{stored_address}
use Rattle.sentry_text.proofs.ip.IpAddressSpelled.hold.Goals as goal

pub returns : goal.returns
returns c = stored_address c.args.self.now c.hold_address.ensures
