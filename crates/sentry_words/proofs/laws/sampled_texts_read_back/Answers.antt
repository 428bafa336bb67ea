use Rattle.sentry_tables.proofs.Spellings.{spelled_refuses_null}
use Rattle.sentry_words.specs.Sampled.{sampled_spelling}
use Rattle.sentry_words.proofs.SampledLaws.{sampled_back, sampled_has_laws}
use Rattle.sentry_words.proofs.laws.sampled_texts_read_back.Goals as goal

pub returns-clause-read_back : goal.returns-clause-read_back
returns-clause-read_back c = sampled_back

pub returns-clause-laws : goal.returns-clause-laws
returns-clause-laws c = sampled_has_laws

pub returns-clause-no_null : goal.returns-clause-no_null
returns-clause-no_null c = spelled_refuses_null sampled_spelling
