use Rattle.std.proofs.Common.{arith}
use Rattle.sentry_keys.proofs.DsnTrees.{dsn_utf8, small_port}
use Rattle.sentry_keys.specs.DsnScheme.{default_port}
use Rattle.sentry_keys.proofs.dsn.Dsn.hold.Goals as goal

pub returns : goal.returns
returns c =
    let dsn = c.args.self.now in
    dsn_utf8 dsn (small_port dsn.port (default_port dsn.scheme) c.port-port.result c.port-port.ensures (omega (arith, c.port-port.type_inv)))
