use Rattle.std.proofs.Common.{◌≡◌, None, codes, rules}
use Rattle.serde_json.specs.Data.{no_members}
use Rattle.sentry_tables.specs.Cells.{empty_map, map_cell, tree_cell}
use Rattle.sentry_tables.specs.Fields.{cells_by, rows_of}
use Rattle.sentry_tables.proofs.AtKeys.{shown_with, shown_without, trees_taken}
use Rattle.sentry_event.specs.Events.{event_fields, event_cell}
use Rattle.sentry_event.proofs.event.BoxEventReadApart.with_extra.Goals as goal

pub returns-in-Some : goal.returns-in-Some
unfolding event_fields
returns-in-Some c =
    let es = c.in-Some.extra.entries in
    rw (c.in-Some.is, ← c.deref_mut.ensures.value) (shown_with (codes "extra") (rows_of event_fields) _ (cells_by event_fields c.deref_mut.result.now) no_members (map_cell tree_cell es) (λ now d is. trees_taken empty_map now (codes "extra") d es is))

pub returns-in_default : goal.returns-in_default
unfolding event_fields
returns-in_default c =
    let none : c.args.extra ≡ None = search rules in
    rw none (shown_without (codes "extra") (rows_of event_fields) (event_cell c.args.self.value))
