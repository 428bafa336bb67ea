use Rattle.sentry_items.proofs.HeaderText.{counting_pieces}
use Rattle.sentry_items.proofs.header.write_counted_header.Goals as goal

pub returns-clause-ok : goal.returns-clause-ok
returns-clause-ok c =
    counting_pieces c.extend_from_slice.result c.args.ty.now c.args.content_type.now c.args.count c.args.out.now.items _ _ _ c.extend_from_slice.new.self.items
    c.in_ok-put_text.ensures.ok c.in_ok-put_number.ensures.ok c.in_ok-put_text-2.ensures.ok c.extend_from_slice.ensures.items
