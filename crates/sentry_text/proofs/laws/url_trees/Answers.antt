use Rattle.std.proofs.Common.{refl}
use Rattle.sentry_text.proofs.UrlTrees.{one_url, url_has_laws, url_refuses_null, url_normal, url_shown_readable}
use Rattle.sentry_text.proofs.laws.url_trees.Goals as goal

pub returns-clause-laws : goal.returns-clause-laws
returns-clause-laws c = url_has_laws

pub returns-clause-no_null : goal.returns-clause-no_null
returns-clause-no_null c = url_refuses_null

pub returns-clause-cells : goal.returns-clause-cells
returns-clause-cells c = one_url

pub returns-clause-stored : goal.returns-clause-stored
returns-clause-stored c url valid = (url, refl, valid)

pub returns-clause-shown : goal.returns-clause-shown
returns-clause-shown c = url_shown_readable

pub returns-clause-normal : goal.returns-clause-normal
returns-clause-normal c = url_normal
