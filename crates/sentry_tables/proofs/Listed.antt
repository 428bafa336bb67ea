-- Lines that are read one value at a time.
use Rattle.std.proofs.Common.{◌≡◌, List, [], ◌∷◌, ◌++◌, Some, refl, sym, ap, subst, ◌∙◌, append_assoc, append-nil}
use Rattle.serde_json.specs.Data.{Data, array, object, no_members, member}
use Rattle.serde_json.specs.Find.{get}
use Rattle.serde_json.proofs.Views.{get_member-put}
use Rattle.sentry_json.specs.Lists.{VisitsAll, VisitsLine, list_at}
use Rattle.sentry_json.specs.Nodes.{items_data}
use Rattle.sentry_tables.specs.Cell.{Cell, fields, no_cells, cell}
use Rattle.sentry_tables.specs.Cells.{cells, list_cell}
use Rattle.sentry_tables.specs.Kind.{Kind, list, must, ignored, table, no_rows, row}
use Rattle.sentry_tables.specs.Reading.{Shown, TextShown}
use Rattle.sentry_tables.specs.Shows.{Shows, ItemsShow, OrElse}
use Rattle.sentry_tables.proofs.ListsShown.{shown_when}

-- values that were kept one by one, each of which its item shows
visited : {S A : Type 0} (values : S → List A) (K : Kind) (f : A → Cell) (first : S) (items : List Data) (last : S)
    → VisitsAll (λ before d after. (v : A) × (values after ≡ values before ++ v ∷ []) × Shown K d (f v)) first items last
    → (added : List A) × (values last ≡ values first ++ added) × ((now : Cell) → ItemsShow (Shows K now) (items_data (λ d. d) items) (cells f added))
visited values K f first [] last is = ([], ap values (sym is) ∙ sym (append-nil (values first)), λ now. tt)
visited values K f first (d ∷ ds) last (next, (v, added, shown), more) =
    let rest = visited values K f next ds last more in
    (v ∷ rest.0, rest.1 ∙ ap (λ xs. xs ++ rest.0) added ∙ append_assoc (values first) (v ∷ []) rest.0, λ now. (shown_when now K d (f v) shown, rest.2 now))

-- an object of one member has it
pub one_member : (key : List _) (d : Data) → get key (object (member key d no_members)) ≡ Some d
one_member key d = get_member-put key d no_members

pub list_shown : {S A : Type 0} (values : S → List A) (K : Kind) (f : A → Cell) (key line : List _) (first last : S) → values first ≡ []
    → VisitsLine (λ before d after. (v : A) × (values after ≡ values before ++ v ∷ []) × Shown K d (f v)) key line first last
    → TextShown (table (row key must (list K) no_rows) ignored) line (fields (cell (list_cell f (values last)) no_cells) no_members)
unfolding TextShown
list_shown values K f key line first last empty (items, is, taken) =
    let all = visited values K f first items last taken in
    let same : values last ≡ all.0 = all.1 ∙ ap (λ xs. xs ++ all.0) empty in
    λ now. (
      list_at key items,
      is,
      (refl, ((subst (λ found. OrElse (λ x. ⊥) (Shows (list K) now) found (list_cell f (values last))) (sym (one_member key (array (items_data (λ d. d) items)))) (subst (λ xs. ItemsShow (Shows K now) (items_data (λ d. d) items) (cells f xs)) (sym same) (all.2 now)), tt), refl)),
    )
