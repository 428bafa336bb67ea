use Rattle.std.proofs.Common.{◌++◌, Ok}
use Rattle.sentry_items.specs.Texts.{bytes_of, parts_bytes}
use Rattle.sentry_items.proofs.Texts.{end_grows}
use Rattle.sentry_envelope.proofs.Rewriting.{list_framed}
use Rattle.sentry_envelope.proofs.rewrite.pass_container.Goals as goal

pub returns-clause-ok : goal.returns-clause-ok
returns-clause-ok g c =
    let parts = parts_bytes c.args.text.now.parts.items in
    let end = c.args.text.now.end.items in
    let headed = c.write_counted_header.new.out.items in
    list_framed {E = Unit {0}} (Ok tt) g.T.Member.kind c.args.line.now c.args.content_type.now c.args.word.now c.in-Ok.count (parts ++ end) (parts ++ headed) (bytes_of c.take_frame.new.text) c.pass_list.new.payload.items
    c.in-Ok.ensures.ok (end_grows parts end headed _ c.in_ok-write_counted_header.ensures.ok) c.in_ok-take_frame.ensures
