use Rattle.std.proofs.Common.{sym, subst, ◌∙◌}
use Rattle.sentry_tables.specs.Cell.{octets}
use Rattle.sentry_tables.specs.Reading.{Reads}
use Rattle.sentry_json.specs.Scalars.{scalar_data}
use Rattle.sentry_identifiers.specs.Uuids.{hyphenated_kind}
use Rattle.sentry_envelope.proofs.HeaderIds.{id_shown}
use Rattle.sentry_envelope.proofs.headers.id_alone.Goals as goal

pub returns-in-Ok : goal.returns-in-Ok
returns-in-Ok c =
    let found = c.in_ok-look_up.ensures in
    let id = c.in_ok-id.id in
    id_shown c.args.line.now found.0 c.look_up.new.places id c.in-Ok.id _ _ _ _ _ found.1 found.2 c.in_ok-id.was
    (sym c.is_some.ensures ∙ c.if-is_some.false) (sym c.is_some-else-is_some.ensures ∙ c.if-is_some-2.false) (sym c.is_some-else-is_some-2.ensures ∙ c.if-is_some-3.false) (sym c.is_some-else-is_some-3.ensures ∙ c.if-is_some-4.false)
    (subst (λ r. Reads hyphenated_kind octets (scalar_data id) r) c.in-Ok.is c.from_node.ensures)
