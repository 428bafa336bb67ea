-- The table of a report's items. Members of other keys are ignored.
use Rattle.std.specs.Prelude.{◌≡◌, ◌^◌, List, [], ◌∷◌, codes, true, refl}
use Rattle.sentry_tables.specs.Cell.{Cell}
use Rattle.sentry_tables.specs.Fields.{Field, field, rows_of, table_of, fields_by}
use Rattle.sentry_tables.specs.Kind.{must, Kind, keys}
use Rattle.sentry_tables.specs.Written.{in_order}
use Rattle.sentry_tables.specs.Cells.{natural_cell}
use Rattle.sentry_tables.specs.Kinds.{unsigned_kind}
use Rattle.sentry_tables.specs.Spelling.{word_cell}
use Rattle.sentry_reports.specs.Categories.{category_kind, category_word, reason_kind, reason_word}
use Rattle.sentry_reports.specs.declared.item.Item.{Item}

unfoldable pub item_fields : List (Field Item)
item_fields =
    field (codes "category") must category_kind (λ i. word_cell category_word i.category)
    ∷ field (codes "quantity") must (unsigned_kind (2 ^ 64)) (λ i. natural_cell i.quantity)
    ∷ field (codes "reason") must reason_kind (λ i. word_cell reason_word i.reason)
    ∷ []

abbrev pub item_kind : Kind
item_kind = table_of item_fields

abbrev pub item_cell : Item → Cell
item_cell i = fields_by item_fields i

pub item_in_order : in_order (keys (rows_of item_fields)) ≡ true
unfolding item_fields
item_in_order = refl
