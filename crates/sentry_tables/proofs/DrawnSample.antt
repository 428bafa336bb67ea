-- A sample of rows that draw, at every depth: nothing is drawn of a tree with all ids, something is
-- of a tree without one of them.
use Rattle.std.proofs.Common.{◌≡◌, ℕ, List, codes, Bool, true, false, bytes_eq, Some, refl, sym, ◌∙◌, subst}
use Rattle.std.proofs.lemmas.Option.{same_Some}
use Rattle.std.proofs.lemmas.Bool.{false≢true}
use Rattle.serde_json.specs.Data.{Data, null, boolean, string, array, object, no_items, item, Members, no_members, member}
use Rattle.sentry_tables.specs.Cell.{Cell, truth, fields, no_cells, cell}
use Rattle.sentry_tables.specs.Kind.{may, draw, ignored, Kind, scalar, list, map, values, table, tagged, tagged_map, Rows, no_rows, row, Cases, no_cases, case}
use Rattle.sentry_tables.specs.Basic.{text_scalar, truth_scalar}
use Rattle.sentry_tables.specs.Lawful.{IsLawful, RowsLawful, CasesLawful}
use Rattle.sentry_tables.specs.Shows.{Shows}
use Rattle.sentry_tables.specs.Drawn.{NothingDrawn}
use Rattle.sentry_tables.specs.Laws.{ShowsOne}
use Rattle.sentry_tables.proofs.Basic.{text_laws, truth_laws, truth_refuses_null}
use Rattle.sentry_tables.proofs.Members.{same_itself}
use Rattle.sentry_tables.proofs.Sample.{Coin, coin_normal}
use Rattle.sentry_tables.proofs.Laws.{shows_one}

-- ---- a table with an id that is drawn, in each kind that holds others

abbrev id_rows : Rows
id_rows = row (codes "id") (draw Coin) (scalar truth_scalar) no_rows

abbrev part : Kind
part = table id_rows ignored

abbrev cases : Cases
cases = case (codes "other") (row (codes "name") may (scalar text_scalar) no_rows) ignored (case (codes "trace") id_rows ignored no_cases)

abbrev whole : Kind
whole = table (
    row (codes "contexts") may (tagged_map cases (codes "other"))
    (row (codes "frames") may (values part)
    (row (codes "id") (draw Coin) (scalar truth_scalar)
    (row (codes "list") may (list part)
    (row (codes "map") may (map part)
    (row (codes "one") may (tagged cases) no_rows)))))) ignored

id_lawful : RowsLawful id_rows
id_lawful = (refl, (truth_refuses_null, coin_normal, (truth true, (true, refl))), truth_laws, tt, refl)

cases_lawful : CasesLawful cases
cases_lawful = (refl, refl, tt, (refl, tt, text_laws, tt, refl), (refl, refl, tt, id_lawful, tt, refl), refl)

whole_lawful : IsLawful whole
whole_lawful = (
  refl,
  tt,
  cases_lawful,
  (
    refl,
    tt,
    id_lawful,
    (
      refl,
      (truth_refuses_null, coin_normal, (truth true, (true, refl))),
      truth_laws,
      (refl, tt, id_lawful, (refl, tt, id_lawful, (refl, tt, cases_lawful, tt, refl), refl), refl),
      refl,
    ),
    refl,
  ),
  refl,
)

whole_shows_one : ShowsOne whole
whole_shows_one = shows_one whole whole_lawful

-- ---- a tree with all ids, and with a member in place of one of them

abbrev id : Members
id = member (codes "id") (boolean true) no_members

abbrev trace : Members → Data
trace ms = object (member (codes "type") (string (codes "trace")) ms)

-- the members of a context of trace, of a part among the frames, of the whole, of a part in the
-- list and in the map, and of the one
abbrev tree_with : Members → Members → Members → Members → Members → Data
tree_with context frame listed mapped one =
    object
    (member (codes "contexts") (object (member (codes "trace") (object context) (member (codes "x") null no_members)))
    (member (codes "frames") (object (member (codes "values") (array (item (object id) (item (object frame) no_items))) no_members))
    (member (codes "id") (boolean false)
    (member (codes "list") (array (item (object listed) no_items))
    (member (codes "map") (object (member (codes "k") (object mapped) no_members))
    (member (codes "one") (trace one) no_members))))))

other_word : (v w : List ℕ) → bytes_eq v w ≡ false → Some v ≡ Some w → ⊥
other_word v w n e = false≢true (sym n ∙ subst (λ u. bytes_eq v u ≡ true) (same_Some v w e) (same_itself v))

-- nothing is drawn of the tree with all ids
all_given : NothingDrawn whole (tree_with id id id id id)
all_given = (
  ((λ e. (tt, tt), (λ e. (tt, tt), tt)), ((λ e. (tt, tt), (λ e. absurd (other_word (codes "other") (codes "trace") refl e), tt)), tt)),
  (
    ((tt, tt), ((tt, tt), tt)),
    (tt, (((tt, tt), tt), (((tt, tt), tt), ((λ e. (tt, tt), (λ e. (tt, tt), tt)), tt)))),
  ),
)

-- so it shows at most one value at a moment
one_value : (now c x : Cell) → Shows whole now (tree_with id id id id id) c → Shows whole now (tree_with id id id id id) x → c ≡ x
one_value now c x = whole_shows_one now (tree_with id id id id id) c x all_given

-- something is drawn where one is absent: in a context, in a frame, in the list, in the map, in the
-- one, or in the whole
no_context_id : NothingDrawn whole (tree_with no_members id id id id) → ⊥
no_context_id h = (h.0.0.1.0 refl).0

no_frame_id : NothingDrawn whole (tree_with id no_members id id id) → ⊥
no_frame_id h = h.1.0.1.0.0

no_listed_id : NothingDrawn whole (tree_with id id no_members id id) → ⊥
no_listed_id h = h.1.1.1.0.0.0

no_mapped_id : NothingDrawn whole (tree_with id id id no_members id) → ⊥
no_mapped_id h = h.1.1.1.1.0.0.0

no_id_of_one : NothingDrawn whole (tree_with id id id id no_members) → ⊥
no_id_of_one h = (h.1.1.1.1.1.0.1.0 refl).0

no_id : NothingDrawn whole (object no_members) → ⊥
no_id h = h.1.1.0

-- and then a tree can show two values
abbrev coin : Bool → Cell
coin b = fields (cell (truth b) no_cells) no_members

any_coin : (now : Cell) (b : Bool) → Shows part now (object no_members) (coin b)
any_coin now b = (refl, (((b, refl), tt), refl))

two_values : (now : Cell) → Shows part now (object no_members) (coin true) × Shows part now (object no_members) (coin false)
two_values now = (any_coin now true, any_coin now false)
