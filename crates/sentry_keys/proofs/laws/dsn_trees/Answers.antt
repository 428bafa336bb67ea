use Rattle.std.proofs.Common.{refl}
use Rattle.std.proofs.lemmas.Str.{IsUtf8-from_ascii}
use Rattle.sentry_keys.specs.Dsn.{dsn_text}
use Rattle.sentry_keys.proofs.DsnReadBack.{dsn_ascii, dsn_reads_back}
use Rattle.sentry_keys.proofs.DsnTrees.{dsn_has_laws, dsn_refuses_null, dsn_shown_readable}
use Rattle.sentry_keys.proofs.laws.dsn_trees.Goals as goal

pub returns-clause-laws : goal.returns-clause-laws
returns-clause-laws c = dsn_has_laws

pub returns-clause-null : goal.returns-clause-null
returns-clause-null c = dsn_refuses_null

pub returns-clause-shown : goal.returns-clause-shown
returns-clause-shown c = dsn_shown_readable

pub returns-clause-valid : goal.returns-clause-valid
returns-clause-valid c url d valid is = ((d, refl, IsUtf8-from_ascii (dsn_text d) (dsn_ascii url d valid is)), (d, refl, dsn_reads_back url d valid is))
