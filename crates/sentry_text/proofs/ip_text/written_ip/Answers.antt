use Rattle.std.proofs.Common.{◌≡◌, IfOk, sym, subst}
use Rattle.sentry_text.proofs.IpTrees.{ip_written}
use Rattle.sentry_text.proofs.AddressLengths.{ip_fits}
use Rattle.sentry_text.proofs.ip_text.written_ip.Goals as goal

pub print_into-requires : goal.print_into-requires
print_into-requires c = ip_fits c.args.ip.now c.hold_ip.ensures

pub returns : goal.returns
returns c = subst (λ text. IfOk c.print_into.result (λ s. s.now ≡ text)) (sym (ip_written c.args.ip.now c.hold_ip.ensures)) c.print_into.ensures.text
