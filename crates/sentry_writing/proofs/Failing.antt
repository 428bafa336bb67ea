-- Sinks that may fail.
use Rattle.std.proofs.Common.{◌≡◌, Option, Some, None, Result, Ok, Err, OnOk, false, true}
use Rattle.std.specs.Prelude.{is_some}
use Rattle.std.specs.Result.{result_err}
use Rattle.sentry_writing.specs.Failing.{While}

-- after a failure nothing is done
pub after_failure : {E : Type 0} (P : Type 0) (failed : Option E) → is_some failed ≡ true → While failed failed P
unfolding While
after_failure P failed is none = absurd cc

pub wrote_while : {E : Type 0} (P : Type 0) (before : Option E) (r : Result (Unit {0}) E) → is_some before ≡ false → OnOk r P → While before (result_err r) P
unfolding While
wrote_while P None (Ok u) is p none = (none, p)
wrote_while P (Some e) (Ok u) is p none = absurd cc
wrote_while P before (Err e) is p none = absurd cc

pub failed_while : {E : Type 0} (P : Type 0) (before : Option E) (e : E) → While before (Some e) P
unfolding While
failed_while P before e none = absurd cc
