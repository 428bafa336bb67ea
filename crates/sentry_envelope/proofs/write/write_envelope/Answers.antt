use Rattle.std.proofs.Common.{rules, ◌≡◌, ◌∙◌, []}
use Rattle.std.specs.Prelude.{map}
use Rattle.sentry_envelope.specs.EnvelopeView.{item_view}
use Rattle.sentry_envelope.specs.HeaderFields.{headers_cell}
use Rattle.sentry_items.specs.Texts.{bytes_of}
use Rattle.sentry_envelope.proofs.Sent.{envelope_begun, item_written}
use Rattle.sentry_envelope.proofs.write.write_envelope.Goals as goal

pub loop-item-init : goal.loop-item-init
loop-item-init c = λ both.
    let none : c.in_ok-out.out.items ≡ [] = search rules in (
      both.1,
      envelope_begun (headers_cell c.args.headers.now) (map item_view c.args.items.now) _ (bytes_of c.new-text.result)
          (rw none at c.in_ok-write_headers.ensures both.0) (c.new-text.ensures ∙ c.in_ok-push.ensures.items),
    )

pub loop-item-preserved : goal.loop-item-preserved
loop-item-preserved c = λ both.
    item_written c.args.items.now c.loop-item.item-index c.item-item.result (bytes_of c.loop-item.text) (bytes_of c.write_item.new.text) _ c.loop-item-test.true c.item-item.is c.in_ok-write_item.ensures (c.loop-item.invariant both)
