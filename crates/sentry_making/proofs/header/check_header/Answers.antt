use Rattle.std.proofs.Common.{refl, sym}
use Rattle.sentry_framing.specs.View.{frame_of}
use Rattle.sentry_forward.specs.HeaderView.{any_view}
use Rattle.sentry_making.proofs.Stated.{longer_than, no_item, other_length, stating}
use Rattle.sentry_making.proofs.header.check_header.Goals as goal

pub returns-in_default-clause-fault : goal.returns-in_default-clause-fault
returns-in_default-clause-fault c = λ _. (refl, no_item (frame_of c.args.item.now) _ c.in_default.ensures.fault)

pub returns-then-piece-item-clause-fault : goal.returns-then-piece-item-clause-fault
returns-then-piece-item-clause-fault c = λ _. (refl, longer_than (frame_of c.args.item.now) _ _ c.in-Ok.ensures.found c.if-piece-item.true)

pub returns-in-Some-clause-lacks : goal.returns-in-Some-clause-lacks
returns-in-Some-clause-lacks c = sym (stating _ (any_view c.in_ok-fields.fields) _ c.in_ok-fields.ensures.ok c.in-Some.is)

pub returns-in-Some-2-clause-fault : goal.returns-in-Some-2-clause-fault
returns-in-Some-2-clause-fault c = λ _. (refl, other_length (frame_of c.args.item.now) (any_view c.in_ok-fields.fields) _ c.in_ok-fields.ensures.ok c.in-Some.is c.if-stated-item.false)
