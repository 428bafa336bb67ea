-- The tables of errors of the C library, signals and Mach exceptions. Members of other keys are ignored.
use Rattle.std.specs.Prelude.{◌≡◌, ◌^◌, List, [], ◌∷◌, codes, true, refl}
use Rattle.sentry_tables.specs.Cell.{Cell, whole}
use Rattle.sentry_tables.specs.Fields.{Field, field, rows_of, table_of, fields_by}
use Rattle.sentry_tables.specs.Kind.{must, may, Kind, keys}
use Rattle.sentry_tables.specs.Written.{in_order}
use Rattle.sentry_tables.specs.Cells.{text_cell, natural_cell, option_cell}
use Rattle.sentry_tables.specs.Kinds.{text_kind, unsigned_kind, signed_kind}
use Rattle.sentry_frames.specs.declared.c_error.CError.{CError}
use Rattle.sentry_frames.specs.declared.mach_exception.MachException.{MachException}
use Rattle.sentry_frames.specs.declared.posix_signal.PosixSignal.{PosixSignal}

-- ---- an error of the C library

unfoldable pub c_error_fields : List (Field CError)
c_error_fields =
    field (codes "name") may text_kind (λ e. option_cell text_cell e.name)
    ∷ field (codes "number") must (signed_kind (2 ^ 31)) (λ e. whole e.number)
    ∷ []

abbrev pub c_error_kind : Kind
c_error_kind = table_of c_error_fields

abbrev pub c_error_cell : CError → Cell
c_error_cell e = fields_by c_error_fields e

pub c_error_in_order : in_order (keys (rows_of c_error_fields)) ≡ true
unfolding c_error_fields
c_error_in_order = refl

-- ---- a Mach exception

unfoldable pub mach_fields : List (Field MachException)
mach_fields =
    field (codes "code") must (unsigned_kind (2 ^ 64)) (λ e. natural_cell e.code)
    ∷ field (codes "exception") must (signed_kind (2 ^ 31)) (λ e. whole e.exception)
    ∷ field (codes "name") may text_kind (λ e. option_cell text_cell e.name)
    ∷ field (codes "subcode") must (unsigned_kind (2 ^ 64)) (λ e. natural_cell e.subcode)
    ∷ []

abbrev pub mach_kind : Kind
mach_kind = table_of mach_fields

abbrev pub mach_cell : MachException → Cell
mach_cell e = fields_by mach_fields e

pub mach_in_order : in_order (keys (rows_of mach_fields)) ≡ true
unfolding mach_fields
mach_in_order = refl

-- ---- a signal

unfoldable pub signal_fields : List (Field PosixSignal)
signal_fields =
    field (codes "code") may (signed_kind (2 ^ 31)) (λ s. option_cell whole s.code)
    ∷ field (codes "code_name") may text_kind (λ s. option_cell text_cell s.code_name)
    ∷ field (codes "name") may text_kind (λ s. option_cell text_cell s.name)
    ∷ field (codes "number") must (signed_kind (2 ^ 31)) (λ s. whole s.number)
    ∷ []

abbrev pub signal_kind : Kind
signal_kind = table_of signal_fields

abbrev pub signal_cell : PosixSignal → Cell
signal_cell s = fields_by signal_fields s

pub signal_in_order : in_order (keys (rows_of signal_fields)) ≡ true
unfolding signal_fields
signal_in_order = refl
