use Rattle.std.proofs.Common.{rules, sym, ◌∙◌}
use Rattle.std.proofs.lemmas.List.{take_rest}
use Rattle.sentry_framing.proofs.ShortHeaders.{typed_header, sized_header}
use Rattle.sentry_framing.proofs.short.split_short.Goals as goal

pub returns-in-Some : goal.returns-in-Some
returns-in-Some c = typed_header c.in_ok-kind.kind c.args.body.now c.in_ok-word.word.now c.in_ok-kind.rest.now c.in-Some.rest.now (search rules) (search rules) (search rules)

pub returns : goal.returns
returns c =
    let digits = c.in_ok-digits.digits.now in
    let closes = sym (take_rest digits c.in_ok-length.len) ∙ c.in_ok-rest.ensures in
    sized_header c.in_ok-kind.kind c.args.body.now c.in_ok-word.word.now c.in_ok-kind.rest.now digits c.in_ok-rest.rest.now c.in_ok-length.length c.in_ok-length.len (search rules) (search rules) (search rules) c.in_ok-length.ensures closes
