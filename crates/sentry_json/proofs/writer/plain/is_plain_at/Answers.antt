use Rattle.json.proofs.Printed.Plain.{plain_from_lanes}
use Rattle.sentry_json.proofs.writer.plain.is_plain_at.Goals as goal

pub returns : goal.returns
returns g c = plain_from_lanes c.args.text.now c.args.at g.row.N c.requires.room c.requires.few c.type_inv.text
