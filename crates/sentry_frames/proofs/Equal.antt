-- What `==` says of values without trees: they are equal exactly where their cells are the same.
use Rattle.std.proofs.Common.{◌≡◌, Decides}
use Rattle.std.proofs.lemmas.Bool.Decides.{Decides-and}
use lib.Dec.{eqb}
use Rattle.std.specs.Ordering.{int_eq}
use Rattle.std.specs.String.{string_eq}
use Rattle.sentry_tables.specs.Cell.{whole}
use Rattle.sentry_tables.specs.Cells.{text_cell, natural_cell}
use Rattle.sentry_tables.proofs.Equal.{texts_decide, naturals_decide, wholes_decide, options_decide, lists_decide}
use Rattle.sentry_frames.specs.Causes.{c_error_fields, c_error_cell, mach_fields, mach_cell, signal_fields, signal_cell}
use Rattle.sentry_frames.specs.Frames.{template_fields, template_cell}
use Rattle.sentry_frames.specs.Mechanisms.{mechanism_meta_fields, mechanism_meta_cell}
use Rattle.sentry_frames.specs.ThreadIds.{thread_id_cell}
use Rattle.sentry_frames.specs.contracts.c_error.CErrorPartialEq.TheImpl.{eq-value as of_c_errors}
use Rattle.sentry_frames.specs.contracts.mach_exception.MachExceptionPartialEq.TheImpl.{eq-value as of_mach_exceptions}
use Rattle.sentry_frames.specs.contracts.mechanism_meta.MechanismMetaPartialEq.TheImpl.{eq-value as of_metas}
use Rattle.sentry_frames.specs.contracts.posix_signal.PosixSignalPartialEq.TheImpl.{eq-value as of_signals}
use Rattle.sentry_frames.specs.contracts.template_info.TemplateInfoPartialEq.TheImpl.{eq-value as of_templates}
use Rattle.sentry_frames.specs.contracts.thread_id.ThreadIdPartialEq.TheImpl.{eq-value as of_thread_ids}
use Rattle.sentry_frames.specs.declared.c_error.CError.{CError}
use Rattle.sentry_frames.specs.declared.mach_exception.MachException.{MachException}
use Rattle.sentry_frames.specs.declared.mechanism_meta.MechanismMeta.{MechanismMeta}
use Rattle.sentry_frames.specs.declared.posix_signal.PosixSignal.{PosixSignal}
use Rattle.sentry_frames.specs.declared.template_info.TemplateInfo.{TemplateInfo}
use Rattle.sentry_frames.specs.declared.thread_id.ThreadId.{ThreadId}
use Rattle.sentry_frames.specs.declared.thread_id.ThreadId.TheVariants.{Int, String}

pub thread_ids_decide : (a b : ThreadId) → Decides (of_thread_ids.it a b) (thread_id_cell a ≡ thread_id_cell b)
thread_ids_decide (Int m) (Int n) = naturals_decide m n
thread_ids_decide (Int m) (String t) = (λ same. cc, λ same. cc)
thread_ids_decide (String s) (Int n) = (λ same. cc, λ same. cc)
thread_ids_decide (String s) (String t) = texts_decide s t

pub templates_decide : (a b : TemplateInfo) → Decides (of_templates.it a b) (template_cell a ≡ template_cell b)
unfolding template_fields
templates_decide a b =
    let parts = Decides-and _ _ (options_decide string_eq text_cell texts_decide a.filename b.filename)
    (Decides-and _ _ (options_decide string_eq text_cell texts_decide a.abs_path b.abs_path)
    (Decides-and _ _ (options_decide eqb natural_cell naturals_decide a.lineno b.lineno)
    (Decides-and _ _ (options_decide eqb natural_cell naturals_decide a.colno b.colno)
    (Decides-and _ _ (lists_decide string_eq text_cell texts_decide a.pre_context.items b.pre_context.items)
    (Decides-and _ _ (options_decide string_eq text_cell texts_decide a.context_line b.context_line)
    (lists_decide string_eq text_cell texts_decide a.post_context.items b.post_context.items)))))) in (
      λ same. let e = parts.0 same in let filename = e.0 in let abs_path = e.1.0 in let lineno = e.1.1.0 in let colno = e.1.1.1.0 in
          let before = e.1.1.1.1.0 in let line = e.1.1.1.1.1.0 in let after = e.1.1.1.1.1.1 in cc,
      λ same. parts.1 (cc, (cc, (cc, (cc, (cc, (cc, cc)))))),
    )

pub c_errors_decide : (a b : CError) → Decides (of_c_errors.it a b) (c_error_cell a ≡ c_error_cell b)
unfolding c_error_fields
c_errors_decide a b =
    let parts = Decides-and _ _ (wholes_decide a.number b.number) (options_decide string_eq text_cell texts_decide a.name b.name) in
    (λ same. let e = parts.0 same in let number = e.0 in let name = e.1 in cc, λ same. parts.1 (cc, cc))

pub mach_exceptions_decide : (a b : MachException) → Decides (of_mach_exceptions.it a b) (mach_cell a ≡ mach_cell b)
unfolding mach_fields
mach_exceptions_decide a b =
    let parts = Decides-and _ _ (wholes_decide a.exception b.exception)
    (Decides-and _ _ (naturals_decide a.code b.code)
    (Decides-and _ _ (naturals_decide a.subcode b.subcode)
    (options_decide string_eq text_cell texts_decide a.name b.name))) in
    (λ same. let e = parts.0 same in let exception = e.0 in let code = e.1.0 in let subcode = e.1.1.0 in let name = e.1.1.1 in cc, λ same. parts.1 (cc, (cc, (cc, cc))))

pub signals_decide : (a b : PosixSignal) → Decides (of_signals.it a b) (signal_cell a ≡ signal_cell b)
unfolding signal_fields
signals_decide a b =
    let parts = Decides-and _ _ (wholes_decide a.number b.number)
    (Decides-and _ _ (options_decide int_eq whole wholes_decide a.code b.code)
    (Decides-and _ _ (options_decide string_eq text_cell texts_decide a.name b.name)
    (options_decide string_eq text_cell texts_decide a.code_name b.code_name))) in
    (λ same. let e = parts.0 same in let number = e.0 in let code = e.1.0 in let name = e.1.1.0 in let code_name = e.1.1.1 in cc, λ same. parts.1 (cc, (cc, (cc, cc))))

pub metas_decide : (a b : MechanismMeta) → Decides (of_metas.it a b) (mechanism_meta_cell a ≡ mechanism_meta_cell b)
unfolding mechanism_meta_fields
metas_decide a b =
    let parts = Decides-and _ _ (options_decide of_c_errors.it c_error_cell c_errors_decide a.errno b.errno)
    (Decides-and _ _ (options_decide of_signals.it signal_cell signals_decide a.signal b.signal)
    (options_decide of_mach_exceptions.it mach_cell mach_exceptions_decide a.mach_exception b.mach_exception)) in
    (λ same. let e = parts.0 same in let errno = e.0 in let signal = e.1.0 in let mach = e.1.1 in cc, λ same. parts.1 (cc, (cc, cc)))
