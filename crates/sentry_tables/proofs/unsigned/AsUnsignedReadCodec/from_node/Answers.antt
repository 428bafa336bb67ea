use Rattle.std.proofs.Common.{rules}
use Rattle.sentry_tables.proofs.ScalarsShown.{whole_refused, whole_read}
use Rattle.sentry_tables.proofs.unsigned.AsUnsignedReadCodec.from_node.Goals as goal

pub returns-in_err-number : goal.returns-in_err-number
returns-in_err-number g c =
    let refused = whole_refused g.T.Unsigned.bound (g.N.Node.data_of c.args.node.now) (search rules) in
    search rules

pub returns : goal.returns
returns g c =
    whole_read g.T.Unsigned.natural g.T.Unsigned.bound c.in_ok-number.number _ c.from_u64.result _ (search rules) c.from_u64.ensures.held c.from_u64.ensures.large c.ok_or-2.ensures.value
