-- A value that was made anew: the same, or its normal form.
use Rattle.std.specs.Prelude.{Bool, true, false}
use Rattle.sentry_tables.specs.Cell.{Cell}
use Rattle.sentry_tables.specs.Kind.{Rule, Kind}
use Rattle.sentry_tables.specs.Norm.{norm, is_null_of, row_norm}
use Rattle.sentry_tables.specs.declared.way.Way.{Way}
use Rattle.sentry_tables.specs.declared.way.Way.TheVariants.{Same, Normal}

unfoldable pub made : Way → Kind → Cell → Cell
made Same K c = c
made (Normal alloc) K c = norm K c

-- what a row holds, by its rule
unfoldable pub row_made : Way → Rule → Kind → Cell → Cell
row_made Same r K c = c
row_made (Normal alloc) r K c = row_norm r (is_null_of K) (norm K) c

abbrev pub is_normal : Way → Bool
is_normal Same = false
is_normal (Normal alloc) = true
