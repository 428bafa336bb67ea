-- Lists under the key `values` that are made anew.
use Rattle.std.specs.Prelude.{◌≡◌}
use Rattle.sentry_tables.specs.Cell.{Cell}
use Rattle.sentry_tables.specs.Kind.{Kind, list, values}
use Rattle.sentry_tables.specs.Made.{made}
use Rattle.sentry_tables.specs.declared.way.Way.{Way}
use Rattle.sentry_tables.specs.declared.way.Way.TheVariants.{Same, Normal}

pub values_made : (way : Way) (K : Kind) (c d : Cell) → d ≡ made way (list K) c → d ≡ made way (values K) c
unfolding made
values_made Same K c d is = is
values_made (Normal alloc) K c d is = is
