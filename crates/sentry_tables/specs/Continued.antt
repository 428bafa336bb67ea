-- That a writer goes on: with tokens after tokens, and with none.
use Rattle.std.proofs.Common.{◌≡◌, List, ◌++◌, refl, sym, ap, ◌∙◌, append_assoc, append-nil}
use Rattle.json.specs.Token.{Token}
use Rattle.json.specs.Written.{Written}
use Rattle.serde_json.specs.Data.{no_members}
use Rattle.sentry_tables.specs.Writes.{Continues, WritesMembers}

pub continues_on : (a b c : Written) (ts us : List Token) → Continues a b ts → Continues b c us → Continues a c (ts ++ us)
continues_on a b c ts us x y = (y.0 ∙ x.0, y.1 ∙ ap (λ s. s ++ us) x.1 ∙ append_assoc a.tokens ts us)

pub continues_as : (a b : Written) (ts us : List Token) → ts ≡ us → Continues a b ts → Continues a b us
continues_as a b ts us e x = (x.0, x.1 ∙ ap (λ s. a.tokens ++ s) e)

pub no_members_wrote : (a : Written) → WritesMembers no_members a a
unfolding WritesMembers
no_members_wrote a h = (refl, sym (append-nil a.tokens))
