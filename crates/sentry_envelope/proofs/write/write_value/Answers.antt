use Rattle.std.proofs.Common.{◌++◌, sym, ◌∙◌}
use Rattle.sentry_items.specs.View.{item_held}
use Rattle.sentry_items.specs.Texts.{bytes_of, parts_bytes}
use Rattle.sentry_envelope.proofs.Sent.{nothing_comes, value_framed}
use Rattle.sentry_items.proofs.Texts.{end_grows}
use Rattle.sentry_envelope.proofs.write.write_value.Goals as goal

pub returns-in_default : goal.returns-in_default
returns-in_default c = nothing_comes (item_held c.args.item.now) (bytes_of c.args.text.now) (sym c.in_default.is ∙ c.kind.ensures)

pub returns : goal.returns
returns c =
    let parts = parts_bytes c.args.text.now.parts.items in
    let end = c.args.text.now.end.items in
    value_framed c.take_frame.result (item_held c.args.item.now) c.in-Some.kind (parts ++ end) (parts ++ c.write_short_header.new.out.items) (bytes_of c.take_frame.new.text) c.build_payload.new.payload.items
    (sym c.in-Some.is ∙ c.kind.ensures) c.in_ok-build_payload.ensures
    (end_grows parts end c.write_short_header.new.out.items _ (rw (c.deref.ensures.value, c.as_str.ensures) at c.in_ok-write_short_header.ensures.ok))
    c.take_frame.ensures
