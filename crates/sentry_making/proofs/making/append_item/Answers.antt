use Rattle.std.proofs.Common.{◌++◌, ◌∙◌, ap, append_assoc}
use Rattle.sentry_framing.specs.View.{frame_of}
use Rattle.sentry_making.specs.Making.{item_text}
use Rattle.sentry_making.proofs.Behind.{appended}
use Rattle.sentry_making.proofs.making.append_item.Goals as goal

pub returns-clause-appended : goal.returns-clause-appended
returns-clause-appended c =
    let item = frame_of c.args.item.now in
    let feeds = c.in_ok-feeds.feeds.now in
    let extended = c.in_ok-extend_from_slice.ensures.items ∙ ap (λ x. x ++ feeds) c.in_ok-text.ensures.items in
    appended c.args.bytes.now feeds _ item c.in_ok-feeds.ensures.ok c.in_ok-push_item.ensures.item
    (c.in_ok-push_item.ensures.ok ∙ ap (λ x. x ++ item_text item) extended ∙ append_assoc c.args.bytes.now feeds (item_text item))
