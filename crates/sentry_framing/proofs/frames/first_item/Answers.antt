use Rattle.std.proofs.Common.{◌∙◌, ap}
use Rattle.std.proofs.lemmas.Result.{err_from_is_err_and}
use Rattle.sentry_framing.specs.ItemHeader.{read_header, stated_length}
use Rattle.sentry_framing.specs.ItemWords.{item_words}
use Rattle.sentry_framing.proofs.StatedLengths.{states}
use Rattle.sentry_framing.proofs.frames.first_item.Goals as goal

pub returns-in_err-header-clause-fault : goal.returns-in_err-header-clause-fault
returns-in_err-header-clause-fault c =
    let p = err_from_is_err_and c.from_residual.result c.from_residual.ensures.1 in
    rw (p.1, p.2) c.in_err-header.ensures.fault

pub returns-in_err-frame-clause-fault : goal.returns-in_err-frame-clause-fault
returns-in_err-frame-clause-fault c =
    let p = err_from_is_err_and c.from_residual-in_err-frame.result c.from_residual-in_err-frame.ensures.1 in
    let reads = states item_words c.in_ok-header.header.now _ c.in_ok-header.ensures.header in
    rw (p.1, p.2) (λ _. c.in_err-frame.ensures.fault (stated_length item_words) c.args.body.now c.in_ok-header.ensures.found reads)

pub returns-clause-frame : goal.returns-clause-frame
returns-clause-frame c =
    let reads = states item_words c.in_ok-header.header.now _ c.in_ok-header.ensures.header in
    c.in_ok-frame.ensures.frame (stated_length item_words) c.args.body.now c.in_ok-header.ensures.found reads

pub returns-clause-header : goal.returns-clause-header
returns-clause-header c = ap (read_header item_words) c.in_ok-frame.ensures.header ∙ c.in_ok-header.ensures.header
