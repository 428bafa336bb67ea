use Rattle.std.proofs.Common.{rules}
use Rattle.json.proofs.Printed.Decimals.{IsNumber-signed_decimal}
use Rattle.sentry_json.proofs.writer.Writer.i64.Goals as goal

pub integer-requires-clause-number : goal.integer-requires-clause-number
integer-requires-clause-number c = search (rules, IsNumber-signed_decimal)
