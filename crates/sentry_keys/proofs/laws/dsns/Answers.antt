use Rattle.sentry_keys.proofs.DsnAnswers.{one_dsn, one_refusal, not_both, some_answer}
use Rattle.sentry_keys.proofs.laws.dsns.Goals as goal

pub returns-clause-parts : goal.returns-clause-parts
returns-clause-parts c = one_dsn

pub returns-clause-refusals : goal.returns-clause-refusals
returns-clause-refusals c = one_refusal

pub returns-clause-apart : goal.returns-clause-apart
returns-clause-apart c = not_both

pub returns-clause-decided : goal.returns-clause-decided
returns-clause-decided c = some_answer
