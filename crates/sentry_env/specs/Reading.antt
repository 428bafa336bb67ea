-- What it means that not all was read.
use Rattle.std.specs.Prelude.{ℕ}
use Rattle.sentry_env.specs.declared.read_all.ReadError.{ReadError}
use Rattle.sentry_env.specs.declared.read_all.ReadError.TheVariants.{Read, Memory}

-- how many reads answered an error
abbrev pub failed_reads : ReadError → ℕ
failed_reads Read = 1
failed_reads Memory = 0
