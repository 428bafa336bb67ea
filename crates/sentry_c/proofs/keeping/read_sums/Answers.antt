use Rattle.std.proofs.Common.{arith, rules, ◌∙◌, ◌*◌, ap, take}
use Rattle.std.proofs.lemmas.List.{take_rest}
use Rattle.sentry_c.proofs.StoredSums.{read_step}
use Rattle.sentry_c.proofs.keeping.read_sums.Goals as goal

pub loop-i-preserved : goal.loop-i-preserved
loop-i-preserved c =
    let chunk = rw c.unwrap-eight.ensures at c.first_chunk.ensures.cases in (
      search rules,
      read_step _ _ _ _ (omega (arith, c.loop-i-test.true, c.loop-i.invariant.0)) (c.number_of.ensures ∙ (chunk.same ∙ ap (take 8) (take_rest c.args.bytes.now (8 * c.loop-i.i)))) c.loop-i.invariant.1,
    )
