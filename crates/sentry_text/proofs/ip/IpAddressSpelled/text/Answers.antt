use Rattle.std.proofs.Common.{◌≡◌, IfOk, sym, subst}
use Rattle.std.specs.Prelude.{IfErr}
use Rattle.sentry_tables.specs.Spelling.{FitsRoom}
use Rattle.sentry_text.proofs.IpTrees.{address_written}
use Rattle.sentry_text.proofs.AddressLengths.{ip_address_fits}
use Rattle.sentry_text.proofs.ip.IpAddressSpelled.text.Goals as goal

pub print_into-requires : goal.print_into-requires
print_into-requires c = ip_address_fits c.args.self.now c.hold_address.ensures

pub returns-clause-ok : goal.returns-clause-ok
returns-clause-ok c = subst (λ text. IfOk c.print_into.result (λ s. s.now ≡ text)) (sym (address_written c.args.self.now c.hold_address.ensures)) c.print_into.ensures.text

pub returns-clause-fits : goal.returns-clause-fits
returns-clause-fits c = subst (λ text. IfErr c.print_into.result (λ _. FitsRoom text)) (sym (address_written c.args.self.now c.hold_address.ensures)) c.print_into.ensures.fits
