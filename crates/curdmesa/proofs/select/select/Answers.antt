use Rattle.std.proofs.Common.{rules}
use Rattle.curdmesa.proofs.SelectLemmas.{selected}
use Rattle.curdmesa.proofs.select.select.Goals as goal

pub returns-clause-selected : goal.returns-clause-selected
returns-clause-selected c = selected _ (λ f. f.0.now) _ _ _ (λ f x b g k. (search rules, search rules)) _ _ c.new.ensures.kept (rw c.in_ok-forwarded.was at c.forward_by.ensures.forwarded)
