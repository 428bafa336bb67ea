use Rattle.sentry_keys.proofs.DsnAnswers.{one_dsn_text, one_text_refusal, not_both_text, some_text_answer}
use Rattle.sentry_keys.proofs.laws.dsn_texts.Goals as goal

pub returns-clause-parts : goal.returns-clause-parts
returns-clause-parts c = one_dsn_text

pub returns-clause-refusals : goal.returns-clause-refusals
returns-clause-refusals c = one_text_refusal

pub returns-clause-apart : goal.returns-clause-apart
returns-clause-apart c = not_both_text

pub returns-clause-decided : goal.returns-clause-decided
returns-clause-decided c = some_text_answer
