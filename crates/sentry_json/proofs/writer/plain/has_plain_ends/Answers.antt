use Rattle.std.proofs.Common.{get_or, sym, ap, ◌∙◌, arith}
use Rattle.std.proofs.lemmas.Bool.{OnTrue_at, OnTrue_from}
use Rattle.json.specs.Run.{is_plain}
use Rattle.sentry_json.proofs.PlainEnds.{plain_by_ends}
use Rattle.sentry_json.proofs.writer.plain.has_plain_ends.Goals as goal

pub returns : goal.returns
returns g c = OnTrue_from c.is_plain_at.result _ (λ yes.
    let both = OnTrue_at yes c.is_plain_at.ensures in
    plain_by_ends g.row.N c.args.text.now c.requires.long (omega (arith, c.requires.twice, c.requires.covered)) (λ k from below.
    ap (λ l. is_plain (get_or l k 0)) (sym c.store_ends.ensures) ∙ both k from (omega (arith, below, c.requires.twice))))
