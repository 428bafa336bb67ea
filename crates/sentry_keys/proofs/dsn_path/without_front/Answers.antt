use Rattle.std.proofs.Common.{ℕ, List, ◌++◌, sym, ap, ◌∙◌, arith}
use Rattle.std.proofs.lemmas.Str.{encode_ascii}
use Rattle.sentry_keys.proofs.DsnCuts.{cut_done}
use Rattle.sentry_keys.proofs.dsn_path.without_front.Goals as goal

pub returns : goal.returns
returns c =
    sym (cut_done c.loop-next.rest.now (λ other e. c.in_default.ensures.cases other (e ∙ ap (λ (t : List ℕ). t ++ other) (sym (encode_ascii 47 (omega arith)))))) ∙ c.loop-next.invariant.1
