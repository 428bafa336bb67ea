use Rattle.std.proofs.Common.{refl}
use Rattle.json.specs.Reads.{token_of}
use Rattle.sentry_json.proofs.Writers.{stays_writer, writes}
use Rattle.sentry_json.proofs.writer.Writer.token.Goals as goal

pub invariant_of-self-2 : goal.invariant_of-self-2
invariant_of-self-2 c =
    stays_writer c.self.inside _ c.self.invariant (token_of c.args.token) c.requires c.put.ensures.utf8 refl c.in_ok-put.ensures.puts c.ends_value-self-inside.ensures

pub returns : goal.returns
returns c = rw (← c.self.view_is) (writes c.self.inside _ c.self.invariant (token_of c.args.token) c.requires c.put.ensures.utf8 refl c.in_ok-put.ensures.puts c.ends_value-self-inside.ensures _ refl)
