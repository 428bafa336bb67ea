use Rattle.std.proofs.Common.{rules, ◌≡◌, codes}
use Rattle.std.proofs.lemmas.Slice.Eq.{bytes_eq-Decides}
use Rattle.sentry_items.proofs.HeaderText.{types_pieces, usual_types}
use Rattle.sentry_items.proofs.header.put_types.Goals as goal

pub returns-clause-ok : goal.returns-clause-ok
returns-clause-ok c =
    types_pieces c.extend_from_slice-2.result c.args.ty.now c.args.content_type.now c.args.out.now.items _ _ c.extend_from_slice-2.new.self.items
    c.in_ok-put_text.ensures.ok c.in_ok-put_text-2.ensures.ok c.extend_from_slice-2.ensures.items

pub returns-then-eq-2-clause-ok : goal.returns-then-eq-2-clause-ok
returns-then-eq-2-clause-ok c =
    let ty : c.args.ty.now ≡ codes "event.attachment" = (bytes_eq-Decides c.args.ty.now (codes "event.attachment")).0 (search rules) in
    let content_type : c.args.content_type.now ≡ codes "application/octet-stream" = (bytes_eq-Decides c.args.content_type.now (codes "application/octet-stream")).0 (search rules) in
    usual_types c.extend_from_slice.result c.args.ty.now c.args.content_type.now c.args.out.now.items c.extend_from_slice.new.self.items ty content_type c.extend_from_slice.ensures.items
