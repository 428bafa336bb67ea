use Rattle.std.proofs.Common.{refl}
use Rattle.std.proofs.lemmas.Option.{IfSome_then}
use Rattle.sentry_json.proofs.Spaces.{one_space}
use Rattle.sentry_json.proofs.tape.rest.Rest.after_space.Goals as goal

pub returns-in-32-clause-spaced : goal.returns-in-32-clause-spaced
returns-in-32-clause-spaced c = IfSome_then c.after.result c.after.ensures (λ rest is. one_space c.args.self.now.text.now rest.text.now 32 is refl refl)

pub returns-in-10-clause-spaced : goal.returns-in-10-clause-spaced
returns-in-10-clause-spaced c = IfSome_then c.after-in-10.result c.after-in-10.ensures (λ rest is. one_space c.args.self.now.text.now rest.text.now 10 is refl refl)

pub returns-in-13-clause-spaced : goal.returns-in-13-clause-spaced
returns-in-13-clause-spaced c = IfSome_then c.after-in-13.result c.after-in-13.ensures (λ rest is. one_space c.args.self.now.text.now rest.text.now 13 is refl refl)

pub returns-in-9-clause-spaced : goal.returns-in-9-clause-spaced
returns-in-9-clause-spaced c = IfSome_then c.after-in-9.result c.after-in-9.ensures (λ rest is. one_space c.args.self.now.text.now rest.text.now 9 is refl refl)
