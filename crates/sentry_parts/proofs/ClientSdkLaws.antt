-- The tables of the software that sends messages are lawful.
use Rattle.std.proofs.Common.{refl}
use Rattle.sentry_tables.proofs.Basic.{text_laws}
use Rattle.sentry_tables.proofs.Laws.{has_laws}
use Rattle.sentry_tables.proofs.ByRows.{laws_by_rows, empty_list_stands}
use Rattle.sentry_tables.specs.Fields.{rows_of}
use Rattle.sentry_tables.specs.Laws.{HasLaws}
use Rattle.sentry_tables.specs.Lawful.{IsLawful}
use Rattle.sentry_parts.specs.ClientSdk.{package_fields, package_kind, sdk_fields, sdk_kind}

pub package_lawful : IsLawful package_kind
unfolding package_fields
package_lawful = laws_by_rows (rows_of package_fields) refl (search text_laws)

pub sdk_lawful : IsLawful sdk_kind
unfolding sdk_fields
sdk_lawful = laws_by_rows (rows_of sdk_fields) refl (search (text_laws, package_lawful, empty_list_stands))

pub package_laws : HasLaws package_kind
package_laws = has_laws package_kind package_lawful

pub sdk_laws : HasLaws sdk_kind
sdk_laws = has_laws sdk_kind sdk_lawful
