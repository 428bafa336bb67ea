use Rattle.sentry_text.proofs.IpTrees.{stored_cell}
use Rattle.sentry_text.proofs.ip_text.IpTextCodecIpAddr.is_plain.Goals as goal

pub returns-clause-stored : goal.returns-clause-stored
returns-clause-stored c = λ _. stored_cell c.args.value.now c.hold_ip.ensures
