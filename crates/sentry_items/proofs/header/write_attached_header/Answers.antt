use Rattle.sentry_items.specs.View.{attachment_view}
use Rattle.sentry_items.proofs.HeaderText.{attachment_pieces, pieces_kept}
use Rattle.sentry_items.proofs.header.write_attached_header.Goals as goal

pub returns-clause-ok : goal.returns-clause-ok
returns-clause-ok c =
    attachment_pieces c.extend_from_slice.result (record (attachment_view c.args.attachment.now) { buffer = c.args.contents.now }) c.args.out.now.items _ _ _ c.extend_from_slice.new.self.items
    (rw (c.written_type.ensures.text, c.written_content_type.ensures.text) at c.in_ok-put_types.ensures.ok)
    (rw c.as_bytes.ensures.value at c.in_ok-write_escaped.ensures.ok) c.in_ok-put_number.ensures.ok c.extend_from_slice.ensures.items

pub returns-clause-kept : goal.returns-clause-kept
returns-clause-kept c =
    pieces_kept c.extend_from_slice.result c.args.out.now.items _ _ _ c.extend_from_slice.new.self.items _ _ _ _
    c.in_ok-put_types.ensures.ok c.in_ok-write_escaped.ensures.ok c.in_ok-put_number.ensures.ok c.extend_from_slice.ensures.items
