use Rattle.std.proofs.Common.{ℕ, List, map, ap, sym, Bor}
use Rattle.std.proofs.lemmas.List.{nil_from_length}
use Rattle.sentry_env.proofs.CallLemmas.{IsCall-path, IsCall-no_path}
use Rattle.sentry_env.proofs.args.split_path.Goals as goal

abbrev texts : List (Bor (List ℕ)) → List (List ℕ)
texts = map (λ word. word.now)

pub returns-in_err-path-clause-none : goal.returns-in_err-path-clause-none
returns-in_err-path-clause-none c =
    rw c.from_residual.ensures
    (IsCall-no_path _ _ _ (ap texts c.in-Some.ensures.cases.0) (sym c.if-eq.ensures) (ap texts (nil_from_length _ c.in_err-path.ensures.cases)))

pub returns-in_ok-path-clause-found : goal.returns-in_ok-path-clause-found
returns-in_ok-path-clause-found c =
    IsCall-path _ _ _ _ _ (ap texts c.in-Some.ensures.cases.0) (sym c.if-eq.ensures) (ap texts c.in_ok-path.ensures.cases.0)
