-- The tables of the software that sends messages. Members of other keys are ignored.
use Rattle.std.specs.Prelude.{◌≡◌, List, [], ◌∷◌, codes, true, refl}
use Rattle.sentry_tables.specs.Cell.{Cell}
use Rattle.sentry_tables.specs.Fields.{Field, field, rows_of, table_of, fields_by}
use Rattle.sentry_tables.specs.Kind.{must, default, Kind, list, keys}
use Rattle.sentry_tables.specs.Written.{in_order}
use Rattle.sentry_tables.specs.Cells.{text_cell, list_cell, empty_list}
use Rattle.sentry_tables.specs.Kinds.{text_kind}
use Rattle.sentry_parts.specs.declared.client_sdk_info.ClientSdkInfo.{ClientSdkInfo}
use Rattle.sentry_parts.specs.declared.client_sdk_package.ClientSdkPackage.{ClientSdkPackage}

-- ---- a package

unfoldable pub package_fields : List (Field ClientSdkPackage)
package_fields =
    field (codes "name") must text_kind (λ p. text_cell p.name)
    ∷ field (codes "version") must text_kind (λ p. text_cell p.version)
    ∷ []

abbrev pub package_kind : Kind
package_kind = table_of package_fields

abbrev pub package_cell : ClientSdkPackage → Cell
package_cell p = fields_by package_fields p

pub package_in_order : in_order (keys (rows_of package_fields)) ≡ true
unfolding package_fields
package_in_order = refl

-- ---- the software

unfoldable pub sdk_fields : List (Field ClientSdkInfo)
sdk_fields =
    field (codes "integrations") (default empty_list) (list text_kind) (λ s. list_cell text_cell s.integrations.items)
    ∷ field (codes "name") must text_kind (λ s. text_cell s.name)
    ∷ field (codes "packages") (default empty_list) (list package_kind) (λ s. list_cell package_cell s.packages.items)
    ∷ field (codes "version") must text_kind (λ s. text_cell s.version)
    ∷ []

abbrev pub sdk_kind : Kind
sdk_kind = table_of sdk_fields

abbrev pub sdk_cell : ClientSdkInfo → Cell
sdk_cell s = fields_by sdk_fields s

pub sdk_in_order : in_order (keys (rows_of sdk_fields)) ≡ true
unfolding sdk_fields
sdk_in_order = refl
