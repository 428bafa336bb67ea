use Rattle.std.proofs.Common.{None, refl}
use Rattle.sentry_rows.proofs.Reading.{table_ends}
use Rattle.sentry_keys.specs.AuthFields.{auth_fields, auth_table}
use Rattle.sentry_keys.proofs.auth.tree.read_rows.Goals as goal

pub returns-clause-rows : goal.returns-clause-rows
unfolding auth_table
returns-clause-rows g c =
    table_ends g.N.Node.data_of auth_fields (record { timestamp = None; client = c.optional_or_null.result; version = c.required.result; key = c.text.result; secret = c.optional_or_null-2.result }) _ _ _ _ c.in_ok-from.ensures.object
    (_, c.optional_or_null.ensures, (_, c.text.ensures, (_, c.optional_or_null-2.ensures, (_, c.required.ensures, refl)))) c.in_ok-from.ensures.failed c.end.ensures
