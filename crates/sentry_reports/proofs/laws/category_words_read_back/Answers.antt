use Rattle.sentry_reports.proofs.Words.{category_word_back, category_has_laws}
use Rattle.sentry_reports.proofs.laws.category_words_read_back.Goals as goal

pub returns-clause-back : goal.returns-clause-back
returns-clause-back c = category_word_back

pub returns-clause-laws : goal.returns-clause-laws
returns-clause-laws c = category_has_laws
