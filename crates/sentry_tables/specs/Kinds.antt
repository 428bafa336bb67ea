-- The kinds of Rust's own types.
use Rattle.std.specs.Prelude.{ℕ}
use Rattle.sentry_tables.specs.Kind.{Kind, scalar}
use Rattle.sentry_tables.specs.Basic.{text_scalar, truth_scalar, unsigned_scalar, signed_scalar, pair_scalar, any_scalar}

abbrev pub text_kind : Kind
text_kind = scalar text_scalar

abbrev pub truth_kind : Kind
truth_kind = scalar truth_scalar

-- whole numbers below the bound
abbrev pub unsigned_kind : ℕ → Kind
unsigned_kind bound = scalar (unsigned_scalar bound)

-- whole numbers from -bound up to bound, bound left out
abbrev pub signed_kind : ℕ → Kind
signed_kind bound = scalar (signed_scalar bound)

abbrev pub pair_kind : Kind
pair_kind = scalar pair_scalar

abbrev pub any_kind : Kind
any_kind = scalar any_scalar
