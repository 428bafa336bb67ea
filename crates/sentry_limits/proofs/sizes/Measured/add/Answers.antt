use Rattle.std.proofs.Common.{refl, rules, ap, ◌∙◌}
use Rattle.sentry_limits.specs.Measured.{place}
use Rattle.sentry_limits.proofs.Counting.{counted_more}
use Rattle.sentry_limits.proofs.sizes.Measured.add.Goals as goal

pub returns : goal.returns
returns c = λ items h.
    counted_more items c.args.item.now c.args.self.now _ c.place-place.result (c.place-place.ensures.same ∙ ap place c.kind.ensures) (search rules) (search rules) refl refl c.max-self.ensures h
