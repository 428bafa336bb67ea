use Rattle.std.proofs.Common.{sym, ◌∙◌, subst}
use Rattle.sentry_json.specs.Balanced.{IsBalanced}
use Rattle.sentry_framing.proofs.Opening.{no_header, opens, nonempty}
use Rattle.sentry_framing.proofs.frames.split_header.Goals as goal

pub returns-in-None-clause-fault : goal.returns-in-None-clause-fault
returns-in-None-clause-fault c =
    let skipped = c.skip_space-at_header.ensures in
    let front = c.skip_space-at_header.result.now in
    let some = nonempty front (sym c.is_empty.ensures ∙ c.if-is_empty.false) in
    λ reads. no_header reads c.args.body.now skipped.skipped.0 front skipped.skipped.1 skipped.all some skipped.skipped.2 c.in-None.ensures.none

pub returns-in-Some-clause-found : goal.returns-in-Some-clause-found
returns-in-Some-clause-found c =
    let skipped = c.skip_space-at_header.ensures in
    let header = c.split_at.result.0.now in
    let whole : IsBalanced header = subst IsBalanced (sym c.split_at.ensures.front) c.in-Some.ensures.found in
    opens c.args.body.now _ _ header c.split_at.result.1.now skipped.skipped.1 skipped.skipped.2 whole c.split_at.ensures.by_index.0
