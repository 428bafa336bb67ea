use Rattle.sentry_keys.specs.Dsn.{UnlessMemory, Refuses}
use Rattle.sentry_keys.proofs.DsnReadBack.{given_reads_back}
use Rattle.sentry_keys.proofs.dsn.Dsn.from_str.Goals as goal

pub returns-in-Ok-clause-reads_back : goal.returns-in-Ok-clause-reads_back
returns-in-Ok-clause-reads_back c =
    given_reads_back c.in-Ok.url c.of_url.result (λ e. UnlessMemory e (Refuses c.in-Ok.url e)) c.of_url.ensures.valid c.of_url.ensures.parts
