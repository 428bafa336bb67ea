-- Containers: lawful where their values are, and made anew.
use Rattle.std.proofs.Common.{◌≡◌, List, refl, ap}
use Rattle.serde_json.specs.Data.{no_members}
use Rattle.sentry_tables.specs.Cell.{Cell, fields, no_cells, cell}
use Rattle.sentry_tables.specs.Kind.{Kind, list}
use Rattle.sentry_tables.specs.Lawful.{IsLawful}
use Rattle.sentry_tables.specs.Cells.{list_cell}
use Rattle.sentry_tables.specs.Made.{made}
use Rattle.sentry_tables.specs.declared.way.Way.{Way}
use Rattle.sentry_tables.specs.declared.way.Way.TheVariants.{Same, Normal}
use Rattle.sentry_items.specs.Containers.{container_kind, items_cell}

pub container_lawful : (K : Kind) → IsLawful K → IsLawful (container_kind K)
container_lawful K lawful = (refl, tt, lawful, tt, refl)

pub items_made : {T : Type 0} (way : Way) (K : Kind) (cell_of : T → Cell) (old new : List T) → list_cell cell_of new ≡ made way (list K) (list_cell cell_of old)
    → items_cell cell_of new ≡ made way (container_kind K) (items_cell cell_of old)
unfolding made
items_made Same K cell_of old new is = ap (λ c. fields (cell c no_cells) no_members) is
items_made (Normal alloc) K cell_of old new is = ap (λ c. fields (cell c no_cells) no_members) is
