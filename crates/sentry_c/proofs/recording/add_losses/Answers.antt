use Rattle.std.proofs.Common.{List, refl}
use Rattle.std.specs.List.{flat_map}
use Rattle.sentry_reports.specs.declared.category.Category.{Category}
use Rattle.sentry_c.specs.Recording.{losses_in}
use Rattle.sentry_c.proofs.Refusals.{none_left, one_left}
use Rattle.sentry_c.proofs.recording.add_losses.Goals as goal

pub loop-category-preserved : goal.loop-category-preserved
loop-category-preserved c = (
  c.add_category.ensures.long,
  λ last refused more.
      c.loop-category.invariant.1 last refused
      (one_left (λ (left : List Category). flat_map (losses_in c.args.losses.now) left) c.loop-category.left.now c.in-Some.category.now c.in-Some.rest.now c.loop-category.ledger c.add_category.new.ledger last c.args.reason c.loop-category.refused c.add_category.new.refused refused _
      c.in-Some.ensures.cases.0 refl c.add_category.ensures.recorded more),
)

pub returns : goal.returns
returns c =
    c.loop-category.invariant.1 c.loop-category.ledger c.loop-category.refused
    (none_left (λ (left : List Category). flat_map (losses_in c.args.losses.now) left) c.loop-category.left.now c.loop-category.ledger c.args.reason c.loop-category.refused refl c.in_default.ensures.cases)
