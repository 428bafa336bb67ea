use Rattle.std.proofs.Common.{refl, rules}
use Rattle.std.proofs.lemmas.Simd.{length-put_chunk}
use Rattle.sentry_json.proofs.Copied.{more_copied}
use Rattle.sentry_json.proofs.writer.copy.copy_long.Goals as goal

pub loop-at-preserved : goal.loop-at-preserved
loop-at-preserved c = (
  search rules,
  search (rules, length-put_chunk),
  more_copied c.loop-at.at 32 _ c.loop-at.to c.args.text.now refl (search rules) (search rules) c.loop-at.invariant.2,
)
