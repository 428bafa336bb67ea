use Rattle.std.proofs.Common.{ap, ◌∙◌, sym, subst, drop}
use Rattle.sentry_framing.specs.Framing.{EndsLine}
use Rattle.sentry_framing.proofs.LineEnds.{line_ends}
use Rattle.sentry_framing.proofs.lines.split_line.Goals as goal

pub returns-clause-ends : goal.returns-clause-ends
returns-clause-ends c =
    let bytes = c.args.bytes.now in
    let (next, ends) = line_ends bytes c.memchr.result c.memchr.ensures in
    (next, subst (λ x. EndsLine x next) (sym (c.split_at.ensures.back ∙ ap (λ n. drop n bytes) c.unwrap_or.ensures)) ends)
