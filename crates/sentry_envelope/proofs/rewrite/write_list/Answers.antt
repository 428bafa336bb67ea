use Rattle.std.proofs.Common.{rules, ◌≡◌, length, sym}
use Rattle.sentry_envelope.proofs.Rewriting.{list_made}
use Rattle.sentry_envelope.proofs.rewrite.write_list.Goals as goal

pub returns-clause-ok : goal.returns-clause-ok
returns-clause-ok g c =
    let size : c.len.result ≡ length c.in_ok-listed.listed.items.items = search rules in
    list_made g.T.Member.kind g.T.Member.cell_of c.args.line.now c.in_ok-listed.listed.items.items c.len.result c.clear.new.self.items c.write_text.new.out.items
    c.in_ok-listed.ensures c.clear.ensures.items (sym size) c.in_ok-write_text.ensures.ok
