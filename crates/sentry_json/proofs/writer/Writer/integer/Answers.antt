use Rattle.std.proofs.Common.{refl}
use Rattle.json.specs.Token.{number}
use Rattle.sentry_json.proofs.Writers.{stays_writer, writes}
use Rattle.sentry_json.proofs.writer.Writer.integer.Goals as goal

pub invariant_of-self : goal.invariant_of-self
invariant_of-self g c =
    stays_writer c.self.inside _ c.self.invariant (number (g.I.Integer.text c.args.n)) c.requires.number c.put_integer.ensures.utf8 refl c.put_integer.ensures.appended refl

pub returns : goal.returns
returns g c = rw (← c.self.view_is) (writes c.self.inside _ c.self.invariant (number (g.I.Integer.text c.args.n)) c.requires.number c.put_integer.ensures.utf8 refl c.put_integer.ensures.appended refl _ refl)
