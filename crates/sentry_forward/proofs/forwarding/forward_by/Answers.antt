use Rattle.std.proofs.Common.{sym, ◌∙◌}
use Rattle.std.specs.Fn.{CalledAt}
use Rattle.sentry_forward.specs.AnyHeader.{any_reading}
use Rattle.sentry_forward.proofs.Finished.{forwarded}
use Rattle.sentry_forward.proofs.Left.{all_pieces, line_front, nothing_left}
use Rattle.sentry_forward.proofs.forwarding.forward_by.Goals as goal

pub sort-requires-clause-whole : goal.sort-requires-clause-whole
sort-requires-clause-whole g c = rw c.rest-body.ensures (line_front _ _ _ c.in_ok-reader.ensures.parts)

pub sort-requires-clause-follow : goal.sort-requires-clause-follow
sort-requires-clause-follow g c =
    let none = nothing_left c.rest.result.now c.read_frames.new.reader.rest c.is_empty.result c.rest.ensures c.is_empty.ensures c.if-not-is_empty.false in
    c.rest-body.ensures ∙ sym (all_pieces any_reading _ _ (c.in_ok-frames.ensures.pieces none))

pub returns-clause-forwarded : goal.returns-clause-forwarded
returns-clause-forwarded g c =
    let none = nothing_left c.rest.result.now c.read_frames.new.reader.rest c.is_empty.result c.rest.ensures c.is_empty.ensures c.if-not-is_empty.false in
    let placed = rw c.in_ok-reader.ensures.bytes at c.in_ok-frames.ensures.placed in
    let asked = rw c.deref.ensures.value at c.ask_each-answers.ensures.asked in
    let sorts = rw (c.are_orphaned-orphaned.ensures, c.deref-2.ensures.value, c.deref-3.ensures.value, c.deref-4.ensures.value) at c.sort.ensures.sorted in
    forwarded (CalledAt g.F.FnMut) c.args.rules.attachments_follow c.args.bytes.now c.in_ok-reader.reader.header_line c.rest-body.result.now c.in_ok-frames.frames.items c.args.filter.now c.ask_each-answers.new.filter c.ask_each-answers.result.items c.sort.result
    c.in_ok-reader.ensures.object (rw c.rest-body.ensures c.in_ok-reader.ensures.parts) (rw c.rest-body.ensures (c.in_ok-frames.ensures.pieces none)) c.in_ok-frames.ensures.named placed asked sorts c.sort.ensures.items
