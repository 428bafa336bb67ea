-- The tables of spans, transactions and events are lawful.
use Rattle.std.proofs.Common.{codes, refl}
use Rattle.std.proofs.lemmas.Option.{none-some}
use Rattle.json.proofs.Printed.Utf8.{IsUtf8-are_ascii}
use Rattle.sentry_tables.proofs.Basic.{text_laws, truth_laws, any_laws}
use Rattle.sentry_tables.proofs.ByRows.{laws_by_rows, empty_map_stands, empty_values_stand}
use Rattle.sentry_tables.proofs.Laws.{has_laws}
use Rattle.sentry_tables.specs.Cell.{text}
use Rattle.sentry_tables.specs.Fields.{rows_of}
use Rattle.sentry_tables.specs.Kind.{default, draw}
use Rattle.sentry_tables.specs.Laws.{HasLaws}
use Rattle.sentry_tables.specs.Lawful.{RuleLaws, IsLawful}
use Rattle.sentry_tables.specs.Kinds.{text_kind}
use Rattle.sentry_tables.proofs.Spellings.{spelled_refuses_null}
use Rattle.sentry_words.specs.Level.{level_kind, level_spelling}
use Rattle.sentry_words.specs.declared.level.Level.TheVariants as level
use Rattle.sentry_moments.proofs.MomentSpellings.{seconds_laws, seconds_at_once}
use Rattle.sentry_identifiers.specs.Uuids.{IsRandomUuid, simple, simple_kind}
use Rattle.sentry_identifiers.proofs.UuidLaws.{simple_laws, drawn_uuid_laws}
use Rattle.sentry_frames.proofs.TableLaws.{entry_lawful, stacktrace_lawful, template_lawful, thread_lawful, exception_lawful}
use Rattle.sentry_parts.proofs.ClientSdkLaws.{sdk_lawful}
use Rattle.sentry_parts.proofs.DebugLaws.{debug_meta_lawful, debug_meta_stands}
use Rattle.sentry_parts.proofs.TableLaws.{breadcrumb_lawful, user_lawful, request_lawful, level_lawful}
use Rattle.sentry_contexts.proofs.ContextLaws.{contexts_lawful, no_contexts_stand, status_lawful, moment_lawful, moment_stands, span_id_lawful, trace_id_lawful, span_id_drawn, trace_id_drawn}
use Rattle.sentry_event.specs.Events.{event_fields, event_kind}
use Rattle.sentry_event.specs.Fingerprints.{fingerprint_kind}
use Rattle.sentry_event.specs.Spans.{span_fields, span_kind}
use Rattle.sentry_event.specs.Transactions.{transaction_fields, transaction_kind}
use Rattle.sentry_event.proofs.FingerprintLaws.{fingerprint_default, fingerprint_lawful}

-- ---- scalars and defaults

id_drawn : RuleLaws (draw IsRandomUuid) simple_kind
id_drawn = drawn_uuid_laws simple

error_stands : RuleLaws (default (text (codes "error"))) level_kind
error_stands = (spelled_refuses_null level_spelling, ((level.Error, refl), tt, tt, refl))

other_stands : RuleLaws (default (text (codes "other"))) text_kind
other_stands = ((λ now c h. none-some c h), (IsUtf8-are_ascii (codes "other") refl, tt, tt, refl))

-- ---- tables

span_lawful : IsLawful span_kind
unfolding span_fields
span_lawful = laws_by_rows (rows_of span_fields) refl (search (text_laws, truth_laws, any_laws, span_id_lawful, trace_id_lawful, span_id_drawn, trace_id_drawn, status_lawful, seconds_laws, seconds_at_once, moment_lawful, moment_stands, empty_map_stands))

pub transaction_lawful : IsLawful transaction_kind
unfolding transaction_fields
transaction_lawful = laws_by_rows (rows_of transaction_fields) refl (search (text_laws, any_laws, simple_laws, id_drawn, user_lawful, request_lawful, sdk_lawful, span_lawful, contexts_lawful, no_contexts_stand, other_stands, seconds_laws, seconds_at_once, moment_lawful, moment_stands, empty_map_stands))

pub event_lawful : IsLawful event_kind
unfolding event_fields
event_lawful = laws_by_rows (rows_of event_fields) refl (search (text_laws, any_laws, simple_laws, id_drawn, level_lawful, error_stands, fingerprint_lawful, fingerprint_default, entry_lawful, stacktrace_lawful, template_lawful, thread_lawful, exception_lawful, breadcrumb_lawful, user_lawful, request_lawful, debug_meta_lawful, debug_meta_stands, sdk_lawful, contexts_lawful, no_contexts_stand, other_stands, seconds_laws, seconds_at_once, empty_map_stands, empty_values_stand))

-- ---- their laws

pub span_laws : HasLaws span_kind
span_laws = has_laws span_kind span_lawful

pub transaction_laws : HasLaws transaction_kind
transaction_laws = has_laws transaction_kind transaction_lawful

pub event_laws : HasLaws event_kind
event_laws = has_laws event_kind event_lawful

pub fingerprint_laws : HasLaws fingerprint_kind
fingerprint_laws = has_laws fingerprint_kind fingerprint_lawful
