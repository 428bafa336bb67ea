use Rattle.std.proofs.Common.{FitsSigned, w32, arith}
use Rattle.std.proofs.lemmas.Int.{to_z-of_z}
use Rattle.jiff_core.proofs.SignedLemmas.{signed_arith}
use Rattle.sentry_moments.proofs.Days.{made}
use Rattle.sentry_moments.proofs.rfc3339.day_number.Goals as goal

pub returns-clause-found : goal.returns-clause-found
returns-clause-found c =
    let fits : FitsSigned w32 c.to_unix_epoch_day.result = omega (arith, signed_arith) in
    rw (to_z-of_z, c.to_unix_epoch_day.ensures.value) (made c.args.year c.args.month c.args.day c.requires.year_in c.requires.month_in c.requires.day_in c.new.result c.in_ok-date.date (c.new.ensures.succeeds, c.new.ensures.value) c.in_ok-date.ensures.value)
