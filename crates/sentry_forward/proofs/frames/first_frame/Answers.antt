use Rattle.std.proofs.Common.{◌∙◌, ap}
use Rattle.std.proofs.lemmas.Result.{err_from_is_err_and}
use Rattle.sentry_forward.specs.AnyHeader.{any_header, any_reading}
use Rattle.sentry_forward.proofs.Left.{frame_within}
use Rattle.sentry_forward.proofs.Placing.{cut_from, first_from, header_stands, item_stands, payload_stands, rest_within}
use Rattle.sentry_forward.proofs.Readings.{reads}
use Rattle.sentry_forward.proofs.frames.first_frame.Goals as goal

pub returns-in_err-header-clause-fault : goal.returns-in_err-header-clause-fault
returns-in_err-header-clause-fault c =
    let p = err_from_is_err_and c.from_residual.result c.from_residual.ensures.1 in
    rw (p.1, p.2) c.in_err-header.ensures.fault

pub returns-in_err-frame-clause-fault : goal.returns-in_err-frame-clause-fault
returns-in_err-frame-clause-fault c =
    let p = err_from_is_err_and c.from_residual-in_err-frame.result c.from_residual-in_err-frame.ensures.1 in
    rw (p.1, p.2) (λ _. c.in_err-frame.ensures.fault any_reading _ c.in_ok-header.ensures.found (reads _ _ c.in_ok-header.ensures.header))

pub slice_bounds-frame-count : goal.slice_bounds-frame-count
slice_bounds-frame-count c = frame_within any_reading _ _ _ (c.in_ok-frame.ensures.frame any_reading _ c.in_ok-header.ensures.found (reads _ _ c.in_ok-header.ensures.header))

pub overflow_sub-next : goal.overflow_sub-next
overflow_sub-next c = rest_within any_reading c.args.bytes.now c.args.start c.requires.within _ c.requires.body _ _ (c.in_ok-frame.ensures.frame any_reading _ c.in_ok-header.ensures.found (reads _ _ c.in_ok-header.ensures.header))

pub returns-clause-frame : goal.returns-clause-frame
returns-clause-frame c = first_from any_reading c.args.bytes.now c.args.start c.requires.within _ c.requires.body _ _ (c.in_ok-frame.ensures.frame any_reading _ c.in_ok-header.ensures.found (reads _ _ c.in_ok-header.ensures.header))

pub returns-clause-whole : goal.returns-clause-whole
returns-clause-whole c = cut_from any_reading c.args.bytes.now c.args.start c.requires.within _ c.requires.body _ _ (c.in_ok-frame.ensures.frame any_reading _ c.in_ok-header.ensures.found (reads _ _ c.in_ok-header.ensures.header))

pub returns-clause-header : goal.returns-clause-header
returns-clause-header c = ap any_header c.in_ok-frame.ensures.header ∙ c.in_ok-header.ensures.header

pub returns-clause-placed : goal.returns-clause-placed
returns-clause-placed c =
    let frame = c.in_ok-frame.ensures.frame any_reading _ c.in_ok-header.ensures.found (reads _ _ c.in_ok-header.ensures.header) in
    record {
      whole = item_stands any_reading c.args.bytes.now c.args.start c.requires.within _ c.requires.body _ _ frame;
      header = rw c.in_ok-frame.ensures.header (header_stands any_reading c.args.bytes.now c.args.start c.requires.within _ c.requires.body _ _ c.in_ok-header.ensures.found);
      payload = rw c.saturating_sub.ensures (payload_stands any_reading c.args.bytes.now c.args.start c.requires.within _ c.requires.body _ _ c.in_ok-header.ensures.found _ _ frame);
    }
