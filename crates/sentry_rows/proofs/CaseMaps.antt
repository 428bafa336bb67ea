-- Maps of values of several cases.
use Rattle.std.proofs.Common.{◌≡◌, ℕ, List, [], ◌∷◌, Bool, true, false, Some, None, Result, Ok, Err, length, refl}
use Rattle.std.proofs.Math.Dec.{eqb-suc-zero}
use Rattle.std.specs.Prelude.{◌==◌, option_and_then}
use Rattle.serde_json.specs.Data.{Data, Members}
use Rattle.serde_json.specs.Find.{get, get_member, as_str, as_object}
use Rattle.sentry_json.specs.Keys.{is_among, are_distinct, StandsAt}
use Rattle.sentry_json.proofs.Beside.{among}
use Rattle.sentry_tables.specs.Cell.{Cell, same_cell}
use Rattle.sentry_tables.specs.Kind.{map, tagged, tagged_map, Cases, words, tag}
use Rattle.sentry_tables.specs.Norm.{norm}
use Rattle.sentry_tables.specs.Shows.{MembersShow, word_at, tag_word}
use Rattle.sentry_tables.proofs.ListsShown.{shown_nowhere, mapping_refused}
use Rattle.sentry_tables.proofs.Sorted.{MapEntry}
use Rattle.sentry_tables.specs.Cells.{entries, map_cell, empty_map}
use Rattle.sentry_tables.specs.Made.{made}
use Rattle.sentry_tables.specs.Reading.{ShownAt, RefusedAt, Only}
use Rattle.sentry_tables.specs.Writes.{written}
use Rattle.sentry_tables.specs.declared.way.Way.{Way}
use Rattle.sentry_tables.specs.declared.way.Way.TheVariants.{Same, Normal}
use Rattle.sentry_tables.specs.declared.error.TreeError.{TreeError}
use Rattle.sentry_tables.specs.declared.error.TreeError.TheVariants.{Misfit, Memory}
use Rattle.sentry_rows.specs.Cased.{ReadsCaseAt, ShowsEntry, EntryShownAt, EntryRefusedAt, ReadsEntryAt}
use Rattle.sentry_rows.proofs.CasesRead.{shown_by_word, refused_by_word}
use Rattle.sentry_rows.proofs.TagsShown.{other_words, choice_refused, no_case_shows}

-- ---- written and made as a map of any members

pub map_written : {A : Type 0} (cases : Cases) (fallback : List ℕ) (f : A → Cell) (es : List (MapEntry A)) → written (map (tagged cases)) (map_cell f es) ≡ written (tagged_map cases fallback) (map_cell f es)
unfolding written
map_written cases fallback f es = refl

pub map_made : {A : Type 0} (way : Way) (cases : Cases) (fallback : List ℕ) (f : A → Cell) (es : List (MapEntry A)) (d : Cell) → d ≡ made way (map (tagged cases)) (map_cell f es) → d ≡ made way (tagged_map cases fallback) (map_cell f es)
unfolding made
map_made Same cases fallback f es d is = is
map_made (Normal alloc) cases fallback f es d is = is

usual_at : {A : Type 0} (cases : Cases) (fallback : List ℕ) (f : A → Cell) (es : List (MapEntry A)) → (length es == 0) ≡ same_cell (norm (tagged_map cases fallback) (map_cell f es)) empty_map
usual_at cases fallback f [] = refl
usual_at cases fallback f (e ∷ es) = eqb-suc-zero (length es)

pub is_usual : {A : Type 0} (cases : Cases) (fallback : List ℕ) (f : A → Cell) (es : List (MapEntry A)) (b : Bool) → b ≡ (length es == 0) → b ≡ same_cell (norm (tagged_map cases fallback) (map_cell f es)) empty_map
is_usual cases fallback f es b is = rw is (usual_at cases fallback f es)

-- ---- the word of a member

pub tag_there : (k : List ℕ) (ws : List (List ℕ)) (fallback : List ℕ) (d e : Data) → get tag d ≡ Some e → option_and_then as_str (get tag d) ≡ tag_word (Some (word_at k ws fallback)) d
tag_there k ws fallback d e is = rw is refl

pub key_known : (k : List ℕ) (ws : List (List ℕ)) (fallback : List ℕ) (d : Data) (n : ℕ) → get tag d ≡ None → StandsAt k n ws → Some k ≡ tag_word (Some (word_at k ws fallback)) d
key_known k ws fallback d n is at = rw (is, among k n ws at) refl

pub key_unknown : (k : List ℕ) (ws : List (List ℕ)) (fallback : List ℕ) (d : Data) → get tag d ≡ None → is_among k ws ≡ false → Some fallback ≡ tag_word (Some (word_at k ws fallback)) d
key_unknown k ws fallback d is none = rw (is, none) refl

-- ---- a member

module _ (now : Cell) (cases : Cases) (fallback key : List ℕ) where
  pub entry_read : {A : Type 0} (f : A → Cell) (word : List ℕ) (n : ℕ) (d : Data) (r : Result A TreeError) → Some word ≡ tag_word (Some (word_at key (words cases) fallback)) d → StandsAt word n (words cases) → are_distinct (words cases) ≡ true → ReadsCaseAt now cases f n d r → ReadsEntryAt now cases fallback f key d r
  unfolding EntryShownAt EntryRefusedAt
  entry_read f word n d (Ok v) is at once h = rw (← is) (shown_by_word now cases word n d (f v) at h)
  entry_read f word n d (Err Misfit) is at once h = λ c s. refused_by_word now cases word n d c at once h (rw (← is) at s)
  entry_read f word n d (Err Memory) is at once h = tt

  pub unknown_entry : (word : List ℕ) (d : Data) → Some word ≡ tag_word (Some (word_at key (words cases) fallback)) d → is_among word (words cases) ≡ false → EntryRefusedAt now cases fallback key d
  unfolding EntryRefusedAt
  unknown_entry word d is none c s = choice_refused _ c (λ n x t. other_words now word d cases n x none (rw (← is) at t)) s.1

  pub no_entry : (d : Data) → None ≡ tag_word (Some (word_at key (words cases) fallback)) d → EntryRefusedAt now cases fallback key d
  unfolding EntryRefusedAt
  no_entry d is c s = choice_refused _ c (λ n x t. no_case_shows cases d now n x (rw (← is) at t)) s.1

-- ---- the map

module _ (now : Cell) (cases : Cases) (fallback : List ℕ) where
  pub no_map : (d : Data) → as_object d ≡ None → RefusedAt now (tagged_map cases fallback) d
  unfolding RefusedAt
  no_map d is c h = rw is at h

  pub map_shown : {A : Type 0} (f : A → Cell) (d : Data) (ms : Members) (es : List (MapEntry A)) → as_object d ≡ Some ms → MembersShow (ShowsEntry cases fallback now) ms (entries f es) → ShownAt now (tagged_map cases fallback) d (map_cell f es)
  unfolding ShownAt
  map_shown f d ms es is h = rw is h

  pub map_fails : (d : Data) (ms : Members) (key : List ℕ) (e : Data) (x : TreeError) → as_object d ≡ Some ms → get_member key ms ≡ Some e → Only x (EntryRefusedAt now cases fallback key e) → Only x (RefusedAt now (tagged_map cases fallback) d)
  unfolding RefusedAt EntryRefusedAt
  map_fails d ms key e Misfit is at refused = λ c h. mapping_refused _ c (λ es. shown_nowhere (ShowsEntry cases fallback now) key e ms es at refused) (rw is at h)
  map_fails d ms key e Memory is at refused = tt

  pub entry_shown : (key : List ℕ) (d : Data) (c : Cell) → EntryShownAt now cases fallback key d c → ShowsEntry cases fallback now key d c
  unfolding EntryShownAt
  entry_shown key d c h = h
