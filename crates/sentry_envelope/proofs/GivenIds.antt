-- Lines that say the id of their event or transaction.
use Rattle.std.proofs.Common.{◌≡◌, ℕ, List, Bool, true, false, cond, bytes_eq, if◌then◌else◌, Option, Some, None, Err, refl, sym, ◌∙◌, subst}
use Rattle.std.proofs.lemmas.Option.{same_Some}
use Rattle.std.proofs.lemmas.Slice.Eq.{bytes_eq-Decides}
use Rattle.json.specs.Written.{Written}
use Rattle.serde_json.specs.Data.{Data}
use Rattle.serde_json.specs.Find.{as_str, get}
use Rattle.sentry_json.specs.Line.{tree_of}
use Rattle.sentry_tables.specs.Cell.{Cell, octets, fields, Cells, no_cells, cell}
use Rattle.sentry_tables.specs.Kind.{Rule, draw, Kind, table, Rows, no_rows, row}
use Rattle.sentry_tables.specs.Passed.{PassedAt}
use Rattle.sentry_tables.specs.Reading.{Only, RefusedAt, Shown, ShownAt, TextRefusedAt, TextShownAt}
use Rattle.sentry_tables.specs.Shows.{OrElse, RowShows, RowsShow, Shows}
use Rattle.sentry_tables.specs.Spelling.{Texted}
use Rattle.sentry_tables.specs.declared.error.TreeError.{TreeError}
use Rattle.sentry_tables.specs.declared.error.TreeError.TheVariants.{Misfit, Memory}
use Rattle.sentry_identifiers.specs.Uuids.{simple_kind, uuid_of}
use Rattle.uuid.specs.declared.Uuid.{Uuid}
use Rattle.sentry_envelope.specs.NormalText.{IsValuePassed}
use Rattle.sentry_envelope.specs.SentryProfile.{IsDrawnId, RowSaysId, SaysId, cell_at, held_at}

-- a text spells one id
one_id : (o : Option (List ℕ)) (c e : Cell) → Texted (λ s x. uuid_of s ≡ Some x) o c → Texted (λ s x. uuid_of s ≡ Some x) o e → c ≡ e
one_id None c e p q = absurd p
one_id (Some s) c e p q = cc

module _ (key : List ℕ) (now : Cell) (d x : Data) (found : get key d ≡ Some x) where
  row_shown : (r : Rule) (K : Kind) (c : Cell) → IsDrawnId r K → RowShows r (Shows K now) now (get key d) c → Shows simple_kind now x c
  row_shown (draw Drawn) K c ids shown = ids now x c (subst (λ o. OrElse Drawn (Shows K now) o c) found shown)
  row_shown _ K c ids shown = absurd ids

  row_or_later : (k : List ℕ) (r : Rule) (K : Kind) (rows : Rows) (c : Cell) (cs : Cells) (first : Bool) → (first ≡ true → key ≡ k) → cond first (IsDrawnId r K) (RowSaysId key rows) → RowShows r (Shows K now) now (get k d) c
      → (RowSaysId key rows → Shows simple_kind now x (cell_at key rows cs)) → Shows simple_kind now x (if first then c else cell_at key rows cs)
  row_or_later k r K rows c cs true same ids shown there = row_shown r K c ids (subst (λ j. RowShows r (Shows K now) now (get j d) c) (sym (same refl)) shown)
  row_or_later k r K rows c cs false same ids shown there = there ids

  rows_shown : (rows : Rows) (cs : Cells) → RowSaysId key rows → RowsShow rows now d cs → Shows simple_kind now x (cell_at key rows cs)
  rows_shown no_rows cs ids shown = absurd ids
  rows_shown (row k r K rows) no_cells ids shown = absurd shown
  rows_shown (row k r K rows) (cell c cs) ids shown =
      row_or_later k r K rows c cs (bytes_eq key k) (λ is. (bytes_eq-Decides key k).0 is) ids shown.0 (λ later. rows_shown rows cs later shown.1)

  -- what the tree shows gives the id that its member spells
  held_is : (K : Kind) (c : Cell) (id : Uuid) → SaysId key K → Shows K now d c → Shows simple_kind now x (octets id) → octets id ≡ held_at key K c
  held_is (table rows other) (fields cs ms) id ids shows spelled = one_id (as_str x) (octets id) (cell_at key rows cs) spelled (rows_shown rows cs ids shows.1.0)
  held_is (table rows other) _ id ids shows spelled = absurd shows.1
  held_is _ c id ids shows spelled = absurd ids

  pub given_passed : (K : Kind) (line : List ℕ) (id : Uuid) (old new : Written) → SaysId key K → tree_of line ≡ Some d → Shown simple_kind x (octets id) → PassedAt now K d old new → IsValuePassed (held_at key K) now K line None (Some id) old new
  unfolding PassedAt IsValuePassed ShownAt TextShownAt Shown
  given_passed K line id old new ids is spelled (c, shows, wrote) = (c, (d, is, shows), wrote, held_is K c id ids shows (spelled now))

pub refused_line : (now : Cell) (K : Kind) (line : List ℕ) (d : Data) (e : TreeError) → tree_of line ≡ Some d → Only e (RefusedAt now K d) → Only e (TextRefusedAt now K line)
unfolding RefusedAt TextRefusedAt
refused_line now K line d Misfit is refused = λ c s. refused c (subst (λ t. Shows K now t c) (same_Some s.0 d (sym s.1 ∙ is)) s.2)
refused_line now K line d Memory is refused = tt
