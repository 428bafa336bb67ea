-- The tables of reports and of their items are lawful.
use Rattle.std.proofs.Common.{refl}
use Rattle.sentry_tables.proofs.Basic.{u64_laws}
use Rattle.sentry_tables.proofs.ByRows.{laws_by_rows}
use Rattle.sentry_tables.proofs.Laws.{has_laws}
use Rattle.sentry_tables.specs.Fields.{rows_of}
use Rattle.sentry_tables.specs.Laws.{HasLaws}
use Rattle.sentry_tables.specs.Lawful.{IsLawful}
use Rattle.sentry_tables.proofs.Spellings.{spelled_laws}
use Rattle.sentry_moments.proofs.MomentSpellings.{seconds_laws, seconds_at_once}
use Rattle.sentry_reports.specs.Categories.{category_kind, category_spelling, reason_kind, reason_spelling}
use Rattle.sentry_reports.specs.ItemTable.{item_fields, item_kind}
use Rattle.sentry_reports.specs.Reports.{report_fields, report_kind}
use Rattle.sentry_reports.proofs.Words.{category_laws, reason_laws}

category_lawful : IsLawful category_kind
category_lawful = spelled_laws category_spelling category_laws

reason_lawful : IsLawful reason_kind
reason_lawful = spelled_laws reason_spelling reason_laws

pub item_lawful : IsLawful item_kind
unfolding item_fields
item_lawful = laws_by_rows (rows_of item_fields) refl (search (u64_laws, category_lawful, reason_lawful))

pub report_lawful : IsLawful report_kind
unfolding report_fields
report_lawful = laws_by_rows (rows_of report_fields) refl (search (item_lawful, seconds_laws, seconds_at_once))

pub item_laws : HasLaws item_kind
item_laws = has_laws item_kind item_lawful

pub report_laws : HasLaws report_kind
report_laws = has_laws report_kind report_lawful
