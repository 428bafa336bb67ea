-- What tables need for the laws: scalars that read back, distinct keys, defaults that are their own
-- normal form.
use Rattle.std.specs.Prelude.{◌≡◌, ◌⊎◌, ◌<◌, ◌≤◌, ◌^◌, ℕ, List, [], ◌∷◌, Bool, true, false, ⊤, ◌&&◌, nat_lt}
use Rattle.serde_json.specs.Data.{Data, null, depth}
use Rattle.sentry_json.specs.Sound.{IsSound}
use Rattle.sentry_json.specs.Keys.{is_among}
use Rattle.sentry_tables.specs.Cell.{Cell, moment}
use Rattle.sentry_tables.specs.Kind.{Scalar, Rule, must, may, may_null, may_strict, default, always, draw, at_once, Other, ignored, kept, Kind, scalar, list, map, values, table, tagged, tagged_map, Rows, no_rows, row, Cases, no_cases, case, keys, words, tag}
use Rattle.sentry_tables.specs.Shows.{Shows}
use Rattle.sentry_tables.specs.Norm.{norm}
use Rattle.sentry_tables.specs.Written.{is_null}
use Rattle.sentry_tables.specs.Meets.{IsPlain, IsReadable, IsStored}

-- each tree shows at most one value
abbrev pub IsFunctional : Scalar → Type 0
IsFunctional s = (d : Data) (c x : Cell) → s.shows d c → s.shows d x → c ≡ x

-- What a scalar owes, of values that are stored and plain.
pub record ScalarLaws (s : Scalar) : Type 0 where
  -- what is written shows the normal form, and so nothing else, since no tree shows two values
  pub back : (c : Cell) → s.stored c × s.plain c → s.readable c → s.shows (s.tree c) (s.norm c)
  pub single : IsFunctional s
  -- the normal form is its own, and is stored, plain, and readable where the value is
  pub again : (c : Cell) → s.stored c × s.plain c → s.norm (s.norm c) ≡ s.norm c
  pub stored_norm : (c : Cell) → s.stored c × s.plain c → s.stored (s.norm c)
  pub plain_norm : (c : Cell) → s.stored c × s.plain c → s.plain (s.norm c)
  pub readable_norm : (c : Cell) → s.stored c × s.plain c → s.readable c → s.readable (s.norm c)
  -- its tree nests no deeper
  pub depth_norm : (c : Cell) → s.stored c × s.plain c → depth (s.tree (s.norm c)) ≤ depth (s.tree c)
  -- the tree is null for the value null alone, and the normal form is null where the value is
  pub null_tree : (c : Cell) → s.stored c → is_null (s.tree c) ≡ s.is_null c
  pub null_norm : (c : Cell) → s.stored c × s.plain c → s.is_null (s.norm c) ≡ s.is_null c
  -- what is written can be printed and read
  pub sound : (c : Cell) → s.stored c × s.plain c → IsSound (s.tree c)
  -- what is shown is stored, plain and readable, is null of null alone, and is written as its
  -- normal form is
  pub shown_stored : (d : Data) (c : Cell) → IsSound d → s.shows d c → s.stored c
  pub shown_plain : (d : Data) (c : Cell) → IsSound d → s.shows d c → s.plain c
  pub shown_readable : (d : Data) (c : Cell) → IsSound d → s.shows d c → s.readable c
  pub shown_null : (d : Data) (c : Cell) → s.shows d c → s.is_null c ≡ true → is_null d ≡ true
  pub shown_tree : (d : Data) (c : Cell) → IsSound d → s.shows d c → s.tree c ≡ s.tree (s.norm c)
  -- some value is shown, or none is
  pub decide : (d : Data) → ((c : Cell) × s.shows d c) ⊎ ((c : Cell) → s.shows d c → ⊥)

-- the last second of the year 9999, counted from 1970-01-01T00:00:00Z
abbrev pub last_second : ℕ
last_second = 253_402_300_799

-- a moment of the years 1970 to 9999
abbrev pub IsMoment : Cell → Type 0
IsMoment (moment secs nanos) = (secs ≤ last_second) × (nanos < 10 ^ 9)
IsMoment _ = ⊥

-- null shows no value
abbrev pub RefusesNull : Kind → Type 0
RefusesNull K = (now c : Cell) → Shows K now null c → ⊥

-- the value is stored, plain and its own normal form
abbrev pub IsNormal : Kind → Cell → Type 0
IsNormal K c = IsStored K c × IsPlain K c × IsReadable K c × (norm K c ≡ c)

-- Defaults, what is drawn, and each moment, are normal; null is refused but where it stands for no
-- value.
abbrev pub RuleLaws : Rule → Kind → Type 0
RuleLaws must K = ⊤
RuleLaws may K = ⊤
RuleLaws may_null K = ⊤
RuleLaws may_strict K = RefusesNull K
RuleLaws (default D) K = RefusesNull K × IsNormal K D
RuleLaws (always D) K = RefusesNull K × IsNormal K D
RuleLaws (draw Drawn) K = RefusesNull K × ((c : Cell) → Drawn c → IsNormal K c) × ((c : Cell) × Drawn c)
RuleLaws at_once K = RefusesNull K × ((c : Cell) → IsMoment c → IsNormal K c)

abbrev pub is_ascii : List ℕ → Bool
is_ascii [] = true
is_ascii (x ∷ xs) = nat_lt x 128 && is_ascii xs

abbrev pub KeepsTag : Other → Type 0
KeepsTag ignored = ⊤
KeepsTag (kept reserved) = is_among tag reserved ≡ true

abbrev mutual
  pub IsLawful : Kind → Type 0
  IsLawful (scalar s) = ScalarLaws s
  IsLawful (list K) = IsLawful K
  IsLawful (map K) = IsLawful K
  IsLawful (values K) = IsLawful K
  IsLawful (table rows o) = RowsLawful rows
  IsLawful (tagged cases) = CasesLawful cases
  IsLawful (tagged_map cases fallback) = CasesLawful cases

  pub RowsLawful : Rows → Type 0
  RowsLawful no_rows = ⊤
  RowsLawful (row k r K rows) = (is_among k (keys rows) ≡ false) × RuleLaws r K × IsLawful K × RowsLawful rows × (is_ascii k ≡ true)

  pub CasesLawful : Cases → Type 0
  CasesLawful no_cases = ⊤
  CasesLawful (case w rows o cases) = (is_among w (words cases) ≡ false) × (is_among tag (keys rows) ≡ false) × KeepsTag o × RowsLawful rows × CasesLawful cases × (is_ascii w ≡ true)
