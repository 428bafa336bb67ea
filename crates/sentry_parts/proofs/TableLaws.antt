-- The tables of breadcrumbs, users and requests are lawful.
use Rattle.std.proofs.Common.{codes, refl}
use Rattle.std.proofs.lemmas.Option.{none-some}
use Rattle.json.proofs.Printed.Utf8.{IsUtf8-are_ascii}
use Rattle.sentry_tables.proofs.Basic.{text_laws, any_laws}
use Rattle.sentry_tables.proofs.ByRows.{laws_by_rows, empty_map_stands}
use Rattle.sentry_tables.proofs.Laws.{has_laws}
use Rattle.sentry_tables.specs.Cell.{text}
use Rattle.sentry_tables.specs.Fields.{rows_of}
use Rattle.sentry_tables.specs.Kind.{default, values}
use Rattle.sentry_tables.specs.Laws.{HasLaws}
use Rattle.sentry_tables.specs.Lawful.{RuleLaws, IsLawful}
use Rattle.sentry_tables.specs.Kinds.{text_kind}
use Rattle.sentry_tables.proofs.Spellings.{spelled_laws, spelled_refuses_null}
use Rattle.sentry_words.specs.Level.{level_kind, level_spelling}
use Rattle.sentry_words.specs.declared.level.Level.TheVariants as level
use Rattle.sentry_words.proofs.Enumerations.{level_laws}
use Rattle.sentry_moments.proofs.MomentSpellings.{seconds_laws, seconds_at_once}
use Rattle.sentry_text.proofs.IpTrees.{ip_address_lawful}
use Rattle.sentry_text.proofs.UrlTrees.{url_lawful}
use Rattle.sentry_parts.specs.Breadcrumbs.{breadcrumb_fields, breadcrumb_kind}
use Rattle.sentry_parts.specs.Requests.{request_fields, request_kind}
use Rattle.sentry_parts.specs.Users.{user_fields, user_kind}

-- ---- scalars and defaults

pub level_lawful : IsLawful level_kind
level_lawful = spelled_laws level_spelling level_laws

info_stands : RuleLaws (default (text (codes "info"))) level_kind
info_stands = (spelled_refuses_null level_spelling, ((level.Info, refl), tt, tt, refl))

usual_type_stands : RuleLaws (default (text (codes "default"))) text_kind
usual_type_stands = ((λ now c h. none-some c h), (IsUtf8-are_ascii (codes "default") refl, tt, tt, refl))

-- ---- tables

pub breadcrumb_lawful : IsLawful breadcrumb_kind
unfolding breadcrumb_fields
breadcrumb_lawful = laws_by_rows (rows_of breadcrumb_fields) refl (search (text_laws, any_laws, level_lawful, seconds_laws, seconds_at_once, info_stands, usual_type_stands, empty_map_stands))

pub user_lawful : IsLawful user_kind
unfolding user_fields
user_lawful = laws_by_rows (rows_of user_fields) refl (search (text_laws, ip_address_lawful))

pub request_lawful : IsLawful request_kind
unfolding request_fields
request_lawful = laws_by_rows (rows_of request_fields) refl (search (text_laws, url_lawful, empty_map_stands))

pub breadcrumb_laws : HasLaws breadcrumb_kind
breadcrumb_laws = has_laws breadcrumb_kind breadcrumb_lawful

pub user_laws : HasLaws user_kind
user_laws = has_laws user_kind user_lawful

pub request_laws : HasLaws request_kind
request_laws = has_laws request_kind request_lawful

-- ---- lists under the key `values`

pub breadcrumb_lists : HasLaws (values breadcrumb_kind)
breadcrumb_lists = has_laws (values breadcrumb_kind) breadcrumb_lawful
