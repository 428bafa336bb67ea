use Rattle.sentry_tables.proofs.Laws.{has_laws}
use Rattle.sentry_text.specs.AddressTree.{address_kind}
use Rattle.sentry_text.proofs.AddressTrees.{address_laws, address_refuses_null, address_is_normal}
use Rattle.sentry_text.proofs.laws.address_trees.Goals as goal

pub returns-clause-laws : goal.returns-clause-laws
returns-clause-laws c = has_laws address_kind address_laws

pub returns-clause-no_null : goal.returns-clause-no_null
returns-clause-no_null c = address_refuses_null

pub returns-clause-normal : goal.returns-clause-normal
returns-clause-normal c = address_is_normal
