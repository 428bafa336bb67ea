use Rattle.sentry_moments.proofs.DecimalReadBack.{rate_reads_back}
use Rattle.sentry_moments.proofs.laws.printed_sample_rates_read_back.Goals as goal

pub returns : goal.returns
returns c = rate_reads_back
