use Rattle.std.proofs.Common.{sym, Bor}
use Rattle.sentry_env.proofs.CallLemmas.{NameKinds-unknown_at}
use Rattle.sentry_env.proofs.args.read_kinds.Goals as goal

pub returns-in_default : goal.returns-in_default
returns-in_default c kinds = NameKinds-unknown_at (λ (word : Bor _). word.now) c.args.words.now kinds c.loop-word.word-index _ c.loop-word-test.true (sym c.in_default.ensures.kind)
