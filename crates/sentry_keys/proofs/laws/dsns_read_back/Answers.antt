use Rattle.sentry_keys.proofs.DsnReadBack.{dsn_ascii, dsn_reads_back, named_ascii, named_reads_back}
use Rattle.sentry_keys.proofs.laws.dsns_read_back.Goals as goal

pub returns-clause-ascii : goal.returns-clause-ascii
returns-clause-ascii c = dsn_ascii

pub returns-clause-back : goal.returns-clause-back
returns-clause-back c = dsn_reads_back

pub returns-clause-named : goal.returns-clause-named
returns-clause-named c text d utf8 named = (named_ascii text d utf8 named, named_reads_back text d utf8 named)
