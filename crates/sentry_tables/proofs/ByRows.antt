-- A table is lawful row by row.
use Rattle.std.proofs.Common.{◌≡◌, ◌&&◌, List, [], ◌∷◌, ℕ, Bool, true, false, refl}
use Rattle.std.proofs.lemmas.Bool.{and_parts}
use Rattle.sentry_json.specs.Keys.{is_among}
use Rattle.sentry_tables.specs.Basic.{truth_scalar}
use Rattle.sentry_tables.specs.Cell.{sequence, mapping, no_cells, no_entries, truth}
use Rattle.sentry_tables.specs.Kind.{default, always, Kind, scalar, list, map, values, Rows, no_rows, row, keys}
use Rattle.sentry_tables.specs.Lawful.{is_ascii, RuleLaws, IsLawful, RowsLawful}
use Rattle.sentry_tables.proofs.Basic.{truth_refuses_null}

-- each key stands once, and is ASCII
abbrev pub is_new : Bool → Bool
is_new true = false
is_new false = true

abbrev pub are_keys : List (List ℕ) → Bool
are_keys [] = true
are_keys (k ∷ ks) = (is_ascii k && is_new (is_among k ks)) && are_keys ks

-- what each row owes by itself
abbrev pub EachLawful : Rows → Type 0
EachLawful no_rows = Unit {0}
EachLawful (row k r K rows) = RuleLaws r K × IsLawful K × EachLawful rows

is_false : (b : Bool) → is_new b ≡ true → b ≡ false
is_false true e = absurd cc
is_false false e = refl

pub laws_by_rows : (rows : Rows) → are_keys (keys rows) ≡ true → EachLawful rows → RowsLawful rows
laws_by_rows no_rows e h = tt
laws_by_rows (row k r K rows) e h =
    let p = and_parts _ _ e in
    let q = and_parts _ _ p.0 in
    (is_false _ q.1, h.0, h.1, laws_by_rows rows p.1 h.2, q.0)

-- an empty list, and an empty map, is its own normal form, and null is none
pub empty_list_stands : (K : Kind) → RuleLaws (default (sequence no_cells)) (list K)
empty_list_stands K = ((λ now c h. h), (tt, tt, tt, refl))

pub empty_map_stands : (K : Kind) → RuleLaws (default (mapping no_entries)) (map K)
empty_map_stands K = ((λ now c h. h), ((tt, tt), (tt, tt), (tt, tt), refl))

pub empty_values_stand : (K : Kind) → RuleLaws (default (sequence no_cells)) (values K)
empty_values_stand K = ((λ now c h. h), (tt, tt, tt, refl))

-- the same where it is always written
pub empty_list_stays : (K : Kind) → RuleLaws (always (sequence no_cells)) (list K)
empty_list_stays K = empty_list_stands K

-- false is its own normal form, and null is no truth value
pub false_stands : RuleLaws (default (truth false)) (scalar truth_scalar)
false_stands = (truth_refuses_null, (tt, tt, tt, refl))
