use Rattle.sentry_items.specs.Texts.{bytes_of, parts_bytes}
use Rattle.sentry_items.proofs.Texts.{end_grows, rest_sent}
use Rattle.sentry_envelope.proofs.write.end_frame.Goals as goal

pub returns : goal.returns
returns c =
    let old = c.args.text.now in
    let told = c.lend.new.self in
    rest_sent (bytes_of old) _ (bytes_of told) _ c.args.payload.now
    (end_grows (parts_bytes old.parts.items) old.end.items c.push.new.self.items _ c.in_ok-push.ensures.items)
    c.in_ok-lend.ensures
    (end_grows (parts_bytes told.parts.items) told.end.items c.push-2.new.self.items _ c.in_ok-push-2.ensures.items)
