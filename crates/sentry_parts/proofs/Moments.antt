-- What is read whatever the moment is read so at each.
use Rattle.std.specs.Prelude.{Result, Ok, Err}
use Rattle.serde_json.specs.Data.{Data}
use Rattle.sentry_tables.specs.Cell.{Cell}
use Rattle.sentry_tables.specs.Kind.{Kind}
use Rattle.sentry_tables.specs.Reading.{Shown, Refused, ShownAt, RefusedAt, Reads, ReadsAt}
use Rattle.sentry_tables.specs.declared.error.TreeError.{TreeError}
use Rattle.sentry_tables.specs.declared.error.TreeError.TheVariants.{Misfit, Memory}

shown_at : (now : Cell) (K : Kind) (d : Data) (c : Cell) → Shown K d c → ShownAt now K d c
unfolding Shown ShownAt
shown_at now K d c shown = shown now

refused_at : (now : Cell) (K : Kind) (d : Data) → Refused K d → RefusedAt now K d
unfolding Refused RefusedAt
refused_at now K d refused = refused now

pub reads_at : {A : Type 0} (now : Cell) (K : Kind) (f : A → Cell) (d : Data) (result : Result A TreeError) → Reads K f d result → ReadsAt now K f d result
reads_at now K f d (Ok value) shown = shown_at now K d (f value) shown
reads_at now K f d (Err Misfit) refused = refused_at now K d refused
reads_at now K f d (Err Memory) nothing = nothing
