use Rattle.sentry_forward.specs.View.{any_frame}
use Rattle.sentry_making.proofs.Behind.{no_feeds, none, one, one_feed, two, two_feeds, within}
use Rattle.sentry_making.proofs.making.feeds_behind.Goals as goal

pub overflow_sub-left : goal.overflow_sub-left
overflow_sub-left c =
    let skipped = c.skip_space-left.ensures in
    within c.requires.1.0 c.args.body.now (any_frame c.args.frame.now) skipped.skipped.0 _ skipped.skipped.1 skipped.all skipped.skipped.2 c.requires.0 c.requires.1.1

pub returns-then-left-frame-clause-more : goal.returns-then-left-frame-clause-more
returns-then-left-frame-clause-more c = λ reads last text.
    let skipped = c.skip_space-left.ensures in
    two reads c.args.body.now (any_frame c.args.frame.now) skipped.skipped.0 _ skipped.skipped.1 skipped.all skipped.skipped.2 last c.if-left-frame.true text

pub returns-then-left-frame-clause-feeds : goal.returns-then-left-frame-clause-feeds
returns-then-left-frame-clause-feeds c = two_feeds

pub returns-then-left-frame-2-clause-more : goal.returns-then-left-frame-2-clause-more
returns-then-left-frame-2-clause-more c = λ reads last text.
    let skipped = c.skip_space-left.ensures in
    one reads c.args.body.now (any_frame c.args.frame.now) skipped.skipped.0 _ skipped.skipped.1 skipped.all skipped.skipped.2 last c.if-left-frame.false c.if-left-frame-2.true text

pub returns-then-left-frame-2-clause-feeds : goal.returns-then-left-frame-2-clause-feeds
returns-then-left-frame-2-clause-feeds c = one_feed

pub returns-else-left-frame-2-clause-more : goal.returns-else-left-frame-2-clause-more
returns-else-left-frame-2-clause-more c = λ reads last text.
    let skipped = c.skip_space-left.ensures in
    none reads c.args.body.now (any_frame c.args.frame.now) skipped.skipped.0 _ skipped.skipped.1 skipped.all skipped.skipped.2 last c.if-left-frame.false c.if-left-frame-2.false text

pub returns-else-left-frame-2-clause-feeds : goal.returns-else-left-frame-2-clause-feeds
returns-else-left-frame-2-clause-feeds c = no_feeds
