-- Null: what is written as null, and which kinds refuse it.
use Rattle.std.proofs.Common.{◌≡◌, true, refl}
use Rattle.std.proofs.lemmas.Bool.{false≢true}
use Rattle.serde_json.specs.Data.{Data}
use Rattle.sentry_tables.specs.Cell.{Cell}
use Rattle.sentry_tables.specs.Kind.{Other, Kind, scalar, list, map, values, table, tagged, tagged_map, Rows}
use Rattle.sentry_tables.specs.Shows.{Shows}
use Rattle.sentry_tables.specs.Norm.{norm, is_null_of}
use Rattle.sentry_tables.specs.Written.{is_null, tree}
use Rattle.sentry_tables.specs.Meets.{IsStored, IsProper}
use Rattle.sentry_tables.specs.Lawful.{RefusesNull, IsLawful}

-- ---- kinds that refuse null

pub list_refuses_null : (K : Kind) → RefusesNull (list K)
list_refuses_null K now c h = h

pub table_refuses_null : (rows : Rows) (o : Other) → RefusesNull (table rows o)
table_refuses_null rows o now c h = false≢true h.0

-- ---- values that are null

-- a value is written as null where it is null
pub null_tree : (K : Kind) → IsLawful K → (c : Cell) → IsStored K c → is_null (tree K c) ≡ is_null_of K c
null_tree (scalar s) laws c p = laws.null_tree c p
null_tree (list K) laws c p = refl
null_tree (map K) laws c p = refl
null_tree (values K) laws c p = refl
null_tree (table rows o) laws c p = refl
null_tree (tagged cases) laws c p = refl
null_tree (tagged_map cases fallback) laws c p = refl

-- the normal form is null where the value is
pub null_norm : (K : Kind) → IsLawful K → (c : Cell) → IsProper K c → is_null_of K (norm K c) ≡ is_null_of K c
null_norm (scalar s) laws c p = laws.null_norm c p
null_norm (list K) laws c p = refl
null_norm (map K) laws c p = refl
null_norm (values K) laws c p = refl
null_norm (table rows o) laws c p = refl
null_norm (tagged cases) laws c p = refl
null_norm (tagged_map cases fallback) laws c p = refl

-- only from null does a tree show a value that is null
pub shown_null : (K : Kind) → IsLawful K → (now : Cell) (d : Data) (c : Cell) → Shows K now d c → is_null_of K c ≡ true → is_null d ≡ true
shown_null (scalar s) laws now d c h e = laws.shown_null d c h e
shown_null (list K) laws now d c h e = absurd (false≢true e)
shown_null (map K) laws now d c h e = absurd (false≢true e)
shown_null (values K) laws now d c h e = absurd (false≢true e)
shown_null (table rows o) laws now d c h e = absurd (false≢true e)
shown_null (tagged cases) laws now d c h e = absurd (false≢true e)
shown_null (tagged_map cases fallback) laws now d c h e = absurd (false≢true e)
