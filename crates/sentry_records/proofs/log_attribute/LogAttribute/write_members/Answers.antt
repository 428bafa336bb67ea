use Rattle.std.proofs.Common.{rules, sym, subst}
use Rattle.serde_json.specs.View.{view}
use Rattle.sentry_tables.specs.Writes.{WritesMembers}
use Rattle.sentry_records.specs.LogAttribute.{attribute_form, attribute_members}
use Rattle.sentry_writing.proofs.OfTables.{while_none}
use Rattle.sentry_records.proofs.log_attribute.LogAttribute.write_members.Goals as goal

pub returns-in-None : goal.returns-in-None
returns-in-None c =
    let ms = attribute_members (attribute_form (view c.args.self.now.0)) in
    let given = c.in_ok-gave.ensures.ok in
    let name = given.0 in
    let q : WritesMembers ms c.args.out.now c.leave.new._sink = subst (λ s. WritesMembers ms c.args.out.now s) (sym c.leave.ensures) (while_none _ _ _ given.1 c.in-None.is) in
    search rules
