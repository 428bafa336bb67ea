use Rattle.std.proofs.Common.{refl}
use Rattle.sentry_records.specs.Sampling.{sampling_fields}
use Rattle.sentry_records.proofs.sampling.DynamicSamplingContextCopyTable.copy_rows.Goals as goal

pub returns : goal.returns
unfolding sampling_fields
returns c = (_, c.optional.ensures, (_, c.optional_as.ensures, (_, c.optional-2.ensures, (_, c.optional-3.ensures, (_, c.optional-4.ensures, (_, c.optional-5.ensures, (_, c.optional_as-2.ensures, (_, c.optional-6.ensures, (_, c.optional-7.ensures, refl)))))))))
