use Rattle.std.proofs.Common.{ℕ, List, map, ap, sym, Bor}
use Rattle.sentry_env.proofs.CallLemmas.{IsCall-keep}
use Rattle.sentry_env.proofs.args.split_keep.Goals as goal

pub returns-then-eq : goal.returns-then-eq
returns-then-eq c = IsCall-keep _ _ _ (ap (map {A = Bor (List ℕ)} {B = List ℕ} (λ word. word.now)) c.in-Some.ensures.cases.0) (sym c.if-eq.ensures)
