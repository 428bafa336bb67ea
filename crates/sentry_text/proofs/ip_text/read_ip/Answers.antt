use Rattle.std.proofs.Common.{rules}
use Rattle.sentry_text.proofs.IpTrees.{ip_read, ip_refused}
use Rattle.sentry_text.proofs.ip_text.read_ip.Goals as goal

pub returns : goal.returns
returns c = search (rules, ip_read c.args.text.now, ip_refused c.args.text.now)
