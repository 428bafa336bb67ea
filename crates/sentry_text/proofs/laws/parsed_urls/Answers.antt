use Rattle.sentry_text.proofs.UrlTrees.{named_valid, named_reads_back}
use Rattle.sentry_text.proofs.laws.parsed_urls.Goals as goal

pub returns-clause-valid : goal.returns-clause-valid
returns-clause-valid c = named_valid

pub returns-clause-back : goal.returns-clause-back
returns-clause-back c = named_reads_back
