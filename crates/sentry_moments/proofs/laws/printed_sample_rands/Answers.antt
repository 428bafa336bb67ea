use Rattle.sentry_moments.proofs.AsciiTexts.{sample_rand_text-utf8}
use Rattle.sentry_moments.proofs.DecimalReadBack.{sample_rand_reads}
use Rattle.sentry_moments.proofs.laws.printed_sample_rands.Goals as goal

pub returns-clause-reads : goal.returns-clause-reads
returns-clause-reads c = sample_rand_reads

pub returns-clause-is_text : goal.returns-clause-is_text
returns-clause-is_text c = sample_rand_text-utf8
