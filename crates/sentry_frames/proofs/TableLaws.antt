-- The tables of messages, frames, stack traces, threads and exceptions are lawful.
use Rattle.std.proofs.Common.{refl, ◌^◌}
use Rattle.sentry_tables.proofs.Basic.{text_laws, truth_laws, u64_laws, i32_laws, pair_laws, any_laws}
use Rattle.sentry_tables.proofs.ByRows.{laws_by_rows, empty_list_stands, empty_map_stands, empty_list_stays, false_stands}
use Rattle.sentry_tables.proofs.Laws.{has_laws}
use Rattle.sentry_tables.proofs.Nulls.{table_refuses_null}
use Rattle.sentry_tables.specs.Fields.{rows_of}
use Rattle.sentry_tables.specs.Kind.{default, ignored, values}
use Rattle.sentry_tables.specs.Laws.{HasLaws}
use Rattle.sentry_tables.specs.Lawful.{IsLawful, RuleLaws}
use Rattle.sentry_tables.specs.Kinds.{unsigned_kind}
use Rattle.sentry_text.proofs.AddressTrees.{address_laws}
use Rattle.sentry_text.proofs.UrlTrees.{url_lawful}
use Rattle.sentry_frames.specs.Causes.{c_error_fields, c_error_kind, mach_fields, mach_kind, signal_fields, signal_kind}
use Rattle.sentry_frames.specs.Exceptions.{exception_fields, exception_kind}
use Rattle.sentry_frames.specs.Frames.{frame_fields, frame_kind, stacktrace_fields, stacktrace_kind, template_fields, template_kind}
use Rattle.sentry_frames.specs.LogEntries.{entry_fields, entry_kind}
use Rattle.sentry_frames.specs.Mechanisms.{mechanism_fields, mechanism_kind, mechanism_meta_fields, mechanism_meta_kind, no_meta}
use Rattle.sentry_frames.specs.ThreadIds.{thread_id_kind}
use Rattle.sentry_frames.specs.Threads.{thread_fields, thread_kind}
use Rattle.sentry_frames.proofs.ThreadIds.{thread_id_lawful}

-- ---- tables

pub entry_lawful : IsLawful entry_kind
unfolding entry_fields
entry_lawful = laws_by_rows (rows_of entry_fields) refl (search (text_laws, any_laws, empty_list_stands))

frame_lawful : IsLawful frame_kind
unfolding frame_fields
frame_lawful = laws_by_rows (rows_of frame_fields) refl (search (text_laws, truth_laws, u64_laws, any_laws, address_laws, empty_list_stands, empty_map_stands))

pub template_lawful : IsLawful template_kind
unfolding template_fields
template_lawful = laws_by_rows (rows_of template_fields) refl (search (text_laws, u64_laws, empty_list_stands))

pub stacktrace_lawful : IsLawful stacktrace_kind
unfolding stacktrace_fields
stacktrace_lawful = laws_by_rows (rows_of stacktrace_fields) refl (search (frame_lawful, pair_laws, address_laws, empty_list_stays, empty_map_stands))

pub thread_lawful : IsLawful thread_kind
unfolding thread_fields
thread_lawful = laws_by_rows (rows_of thread_fields) refl (search (text_laws, truth_laws, thread_id_lawful, stacktrace_lawful, false_stands))

c_error_lawful : IsLawful c_error_kind
unfolding c_error_fields
c_error_lawful = laws_by_rows (rows_of c_error_fields) refl (search (text_laws, i32_laws))

mach_lawful : IsLawful mach_kind
unfolding mach_fields
mach_lawful = laws_by_rows (rows_of mach_fields) refl (search (text_laws, i32_laws, u64_laws))

signal_lawful : IsLawful signal_kind
unfolding signal_fields
signal_lawful = laws_by_rows (rows_of signal_fields) refl (search (text_laws, i32_laws))

mechanism_meta_lawful : IsLawful mechanism_meta_kind
unfolding mechanism_meta_fields
mechanism_meta_lawful = laws_by_rows (rows_of mechanism_meta_fields) refl (search (c_error_lawful, mach_lawful, signal_lawful))

-- where nothing is told, that is its own normal form, and null is none
no_meta_stands : RuleLaws (default no_meta) mechanism_meta_kind
unfolding mechanism_meta_fields
no_meta_stands = (table_refuses_null (rows_of mechanism_meta_fields) ignored, (((tt, (tt, (tt, tt))), refl), ((tt, (tt, (tt, tt))), (tt, refl)), ((tt, (tt, (tt, tt))), tt), refl))

mechanism_lawful : IsLawful mechanism_kind
unfolding mechanism_fields
mechanism_lawful = laws_by_rows (rows_of mechanism_fields) refl (search (text_laws, truth_laws, any_laws, url_lawful, mechanism_meta_lawful, no_meta_stands, empty_map_stands))

pub exception_lawful : IsLawful exception_kind
unfolding exception_fields
exception_lawful = laws_by_rows (rows_of exception_fields) refl (search (text_laws, thread_id_lawful, stacktrace_lawful, mechanism_lawful))

-- ---- their laws

pub entry_laws : HasLaws entry_kind
entry_laws = has_laws entry_kind entry_lawful

pub frame_laws : HasLaws frame_kind
frame_laws = has_laws frame_kind frame_lawful

pub template_laws : HasLaws template_kind
template_laws = has_laws template_kind template_lawful

pub stacktrace_laws : HasLaws stacktrace_kind
stacktrace_laws = has_laws stacktrace_kind stacktrace_lawful

pub thread_laws : HasLaws thread_kind
thread_laws = has_laws thread_kind thread_lawful

pub c_error_laws : HasLaws c_error_kind
c_error_laws = has_laws c_error_kind c_error_lawful

pub mach_laws : HasLaws mach_kind
mach_laws = has_laws mach_kind mach_lawful

pub signal_laws : HasLaws signal_kind
signal_laws = has_laws signal_kind signal_lawful

pub mechanism_meta_laws : HasLaws mechanism_meta_kind
mechanism_meta_laws = has_laws mechanism_meta_kind mechanism_meta_lawful

pub mechanism_laws : HasLaws mechanism_kind
mechanism_laws = has_laws mechanism_kind mechanism_lawful

pub exception_laws : HasLaws exception_kind
exception_laws = has_laws exception_kind exception_lawful

pub thread_id_laws : HasLaws thread_id_kind
thread_id_laws = has_laws thread_id_kind thread_id_lawful

-- ---- lists under the key `values`

pub exception_lists : HasLaws (values exception_kind)
exception_lists = has_laws (values exception_kind) exception_lawful

pub thread_lists : HasLaws (values thread_kind)
thread_lists = has_laws (values thread_kind) thread_lawful

pub number_lists : HasLaws (values (unsigned_kind (2 ^ 64)))
number_lists = has_laws (values (unsigned_kind (2 ^ 64))) u64_laws
