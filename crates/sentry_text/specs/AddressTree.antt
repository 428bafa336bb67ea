-- Addresses and register values in trees: texts, or whole numbers; written as texts.
use Rattle.std.specs.Prelude.{ℕ, ◌^◌, pos, Option, Some, None, option_map}
use Rattle.std.specs.Int.{w64, cast_unsigned}
use Rattle.serde_json.specs.Data.{Num, unsigned, negative, float, Data, null, number, string}
use Rattle.sentry_tables.specs.Cell.{Cell, whole}
use Rattle.sentry_tables.specs.Kind.{Scalar, Kind, scalar}
use Rattle.sentry_tables.specs.Basic.{read_by, IsBelow}
use Rattle.sentry_tables.specs.Cells.{natural_cell}
use Rattle.sentry_text.specs.Address.{address_of, address_text}

-- a negative number stands for its 64 bits in two's complement
abbrev pub number_address : Num → Option ℕ
number_address (unsigned n) = Some n
number_address (negative z) = Some (cast_unsigned w64 z)
number_address (float x) = None

-- the address that a tree shows
abbrev pub address_in : Data → Option ℕ
address_in (string text) = address_of text
address_in (number n) = number_address n
address_in _ = None

abbrev pub address_tree : Cell → Data
address_tree (whole (pos n)) = string (address_text n)
address_tree _ = null

abbrev pub address_scalar : Scalar
address_scalar = read_by (λ d. option_map natural_cell (address_in d)) address_tree (IsBelow (2 ^ 64))

abbrev pub address_kind : Kind
address_kind = scalar address_scalar
