-- Lists that stand under the key `values`.
use Rattle.std.proofs.Common.{◌≡◌, Some, None, Result, Ok, Err, refl, sym, true, false, true≢false}
use Rattle.std.specs.Prelude.{is_some}
use Rattle.serde_json.specs.Data.{Data, array, object}
use Rattle.serde_json.specs.Find.{as_array, get}
use Rattle.sentry_tables.specs.Cell.{Cell}
use Rattle.sentry_tables.specs.Kind.{Kind, list, values}
use Rattle.sentry_tables.specs.Shows.{values_in, values_key}
use Rattle.sentry_tables.specs.Reading.{Shown, Refused, Reads, ShownAt, RefusedAt, ReadsAt}
use Rattle.sentry_tables.specs.declared.error.TreeError.{TreeError}
use Rattle.sentry_tables.specs.declared.error.TreeError.TheVariants.{Misfit, Memory}

bare : (d : Data) → is_some (as_array d) ≡ true → values_in d ≡ as_array d
bare (array ds) e = refl
bare _ e = absurd (true≢false (sym e))

under : (d e : Data) → is_some (as_array d) ≡ false → get values_key d ≡ Some e → values_in d ≡ as_array e
under (array ds) e other h = absurd (true≢false other)
under (object ms) e other h = rw h refl
under _ e other h = absurd cc

neither : (d : Data) → is_some (as_array d) ≡ false → get values_key d ≡ None → values_in d ≡ None
neither (array ds) other h = absurd (true≢false other)
neither (object ms) other h = rw h refl
neither _ other h = refl

-- ---- at every moment

read_from : {A : Type 0} (K : Kind) (f : A → Cell) (d e : Data) (r : Result A TreeError) → values_in d ≡ as_array e → Reads (list K) f e r → Reads (values K) f d r
unfolding Shown Refused
read_from K f d e (Ok v) is h = λ now. rw is (h now)
read_from K f d e (Err Misfit) is h = λ now c s. h now c (rw is at s)
read_from K f d e (Err Memory) is h = tt

pub bare_read : {A : Type 0} (K : Kind) (f : A → Cell) (d : Data) (r : Result A TreeError) → is_some (as_array d) ≡ true → Reads (list K) f d r → Reads (values K) f d r
bare_read K f d r is = read_from K f d d r (bare d is)

pub under_read : {A : Type 0} (K : Kind) (f : A → Cell) (d e : Data) (r : Result A TreeError) → is_some (as_array d) ≡ false → get values_key d ≡ Some e → Reads (list K) f e r → Reads (values K) f d r
under_read K f d e r other at = read_from K f d e r (under d e other at)

pub no_values : (K : Kind) (d : Data) → is_some (as_array d) ≡ false → get values_key d ≡ None → Refused (values K) d
unfolding Refused
no_values K d other at now c h = rw (neither d other at) at h

-- ---- at a moment

read_from_at : {A : Type 0} (now : Cell) (K : Kind) (f : A → Cell) (d e : Data) (r : Result A TreeError) → values_in d ≡ as_array e → ReadsAt now (list K) f e r → ReadsAt now (values K) f d r
unfolding ShownAt RefusedAt
read_from_at now K f d e (Ok v) is h = rw is h
read_from_at now K f d e (Err Misfit) is h = λ c s. h c (rw is at s)
read_from_at now K f d e (Err Memory) is h = tt

pub bare_read_at : {A : Type 0} (now : Cell) (K : Kind) (f : A → Cell) (d : Data) (r : Result A TreeError) → is_some (as_array d) ≡ true → ReadsAt now (list K) f d r → ReadsAt now (values K) f d r
bare_read_at now K f d r is = read_from_at now K f d d r (bare d is)

pub under_read_at : {A : Type 0} (now : Cell) (K : Kind) (f : A → Cell) (d e : Data) (r : Result A TreeError) → is_some (as_array d) ≡ false → get values_key d ≡ Some e → ReadsAt now (list K) f e r → ReadsAt now (values K) f d r
under_read_at now K f d e r other at = read_from_at now K f d e r (under d e other at)

pub no_values_at : (now : Cell) (K : Kind) (d : Data) → is_some (as_array d) ≡ false → get values_key d ≡ None → RefusedAt now (values K) d
unfolding RefusedAt
no_values_at now K d other at c h = rw (neither d other at) at h
