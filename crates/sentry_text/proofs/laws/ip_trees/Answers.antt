use Rattle.sentry_tables.proofs.Laws.{has_laws}
use Rattle.sentry_text.specs.IpTree.{ip_kind}
use Rattle.sentry_text.proofs.IpTrees.{ip_lawful, ip_refuses_null, ip_normal}
use Rattle.sentry_text.proofs.laws.ip_trees.Goals as goal

pub returns-clause-laws : goal.returns-clause-laws
returns-clause-laws c = has_laws ip_kind ip_lawful

pub returns-clause-no_null : goal.returns-clause-no_null
returns-clause-no_null c = ip_refuses_null

pub returns-clause-normal : goal.returns-clause-normal
returns-clause-normal c = ip_normal
