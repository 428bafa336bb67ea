use Rattle.sentry_items.proofs.HeaderText.{short_pieces}
use Rattle.sentry_items.proofs.header.write_short_header.Goals as goal

pub returns-clause-ok : goal.returns-clause-ok
returns-clause-ok c =
    short_pieces c.extend_from_slice.result c.args.word.now c.args.payload.now c.args.out.now.items _ _ c.extend_from_slice.new.self.items
    c.in_ok-put_number.ensures.ok c.in_ok-put_text.ensures.ok c.extend_from_slice.ensures.items
