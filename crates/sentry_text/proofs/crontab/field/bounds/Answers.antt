use Rattle.sentry_text.proofs.CrontabItems.{no_bounds, bounds_at}
use Rattle.sentry_text.proofs.crontab.field.bounds.Goals as goal

pub returns-in_err-first-clause-only : goal.returns-in_err-first-clause-only
returns-in_err-first-clause-only c m n h = absurd (no_bounds c.args.text.now m n c.in_err-first.ensures h)

pub returns-in_err-number-clause-only : goal.returns-in_err-number-clause-only
returns-in_err-number-clause-only c m n h =
    let k = bounds_at c.args.text.now c.in_ok-first.first.now c.in_ok-first.last.now m n c.in_ok-first.ensures h in
    let e = c.in_err-number.ensures.only m k.0 in
    absurd cc

pub returns-in_err-number-2-clause-only : goal.returns-in_err-number-2-clause-only
returns-in_err-number-2-clause-only c m n h =
    let k = bounds_at c.args.text.now c.in_ok-first.first.now c.in_ok-first.last.now m n c.in_ok-first.ensures h in
    let e = c.in_err-number-2.ensures.only n k.1 in
    absurd cc

pub returns-clause-only : goal.returns-clause-only
returns-clause-only c m n h =
    let k = bounds_at c.args.text.now c.in_ok-first.first.now c.in_ok-first.last.now m n c.in_ok-first.ensures h in
    let first = c.in_ok-number.ensures.only m k.0 in
    let last = c.in_ok-number-2.ensures.only n k.1 in
    cc
