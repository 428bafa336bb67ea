use Rattle.std.proofs.Common.{rules}
use Rattle.json.proofs.Printed.Decimals.{IsNumber-decimal}
use Rattle.sentry_json.proofs.writer.Writer.u64.Goals as goal

pub integer-requires-clause-number : goal.integer-requires-clause-number
integer-requires-clause-number c = IsNumber-decimal c.args.n (search rules)
