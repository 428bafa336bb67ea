-- The bits of item types, and what a filter by bits keeps.
use Rattle.std.specs.Prelude.{ℕ, ◌^◌, Bool, not, ◌==◌, bit_and, if◌then◌else◌}
use Rattle.sentry_framing.specs.ItemWords.{kind_place}
use Rattle.sentry_framing.specs.declared.kind.ItemKind.{ItemKind}

-- the bit of a type: the first has the lowest
abbrev pub kind_bit : ItemKind → ℕ
kind_bit kind = 2 ^ kind_place kind

-- the bit is among these bits
abbrev pub is_set : ℕ → ℕ → Bool
is_set kinds bit = not (bit_and kinds bit == 0)

-- the filter keeps the items of this type: the types whose bits are set are kept, or all others
abbrev pub is_wanted : ℕ → Bool → ItemKind → Bool
is_wanted kinds keep kind = if keep then is_set kinds (kind_bit kind) else not (is_set kinds (kind_bit kind))
