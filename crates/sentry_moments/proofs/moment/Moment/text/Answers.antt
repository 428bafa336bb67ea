use Rattle.std.proofs.Common.{◌∙◌, ap, arith, set}
use Rattle.sentry_moments.proofs.MomentEnds.{text_cut, cut_utf8, ends_within}
use Rattle.sentry_moments.proofs.moment.Moment.text.Goals as goal

pub bounds-room-end : goal.bounds-room-end
bounds-room-end c = ends_within c.args.self.now.nanos c.end-end.result c.end-end.ensures

pub overflow_add-end : goal.overflow_add-end
overflow_add-end c = omega (arith, ends_within c.args.self.now.nanos c.end-end.result c.end-end.ensures)

pub shared_ref_as_front-from_utf8_unchecked : goal.shared_ref_as_front-from_utf8_unchecked
shared_ref_as_front-from_utf8_unchecked c = omega (arith, ends_within c.args.self.now.nanos c.end-end.result c.end-end.ensures)

pub from_utf8_unchecked-requires : goal.from_utf8_unchecked-requires
from_utf8_unchecked-requires c =
    cut_utf8 c.args.self.now.secs c.args.self.now.nanos c.end-end.result _ (ap (λ t. set t c.end-end.result 90) c.with_nine_places.ensures) c.end-end.ensures

pub returns : goal.returns
returns c =
    c.from_utf8_unchecked.ensures ∙ text_cut c.args.self.now.secs c.args.self.now.nanos c.end-end.result _ (ap (λ t. set t c.end-end.result 90) c.with_nine_places.ensures) c.end-end.ensures
