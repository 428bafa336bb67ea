use Rattle.std.proofs.Common.{map, take}
use Rattle.sentry_env.specs.Args.{NameKinds}
use Rattle.sentry_env.proofs.args.read_kinds.Given as goal

abbrev pub invariant-loop-word : goal.invariant-loop-word
invariant-loop-word l = NameKinds (map (λ word. word.now) (take l.word-index l.words)) l.kinds.items
