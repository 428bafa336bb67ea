use Rattle.sentry_reports.proofs.Words.{reason_word_back, reason_has_laws}
use Rattle.sentry_reports.proofs.laws.reason_words_read_back.Goals as goal

pub returns-clause-back : goal.returns-clause-back
returns-clause-back c = reason_word_back

pub returns-clause-laws : goal.returns-clause-laws
returns-clause-laws c = reason_has_laws
