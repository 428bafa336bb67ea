use Rattle.std.proofs.Common.{rules, ◌≡◌, [], sym, ap, ◌∙◌}
use Rattle.serde_json.specs.Data.{null}
use Rattle.serde_json.specs.View.{view}
use Rattle.serde_json.specs.declared.value.Value.{Null, the_lemmas}
use Rattle.sentry_json.specs.Tokens.{value_of}
use Rattle.sentry_json.specs.declared.tape.token.Token.TheVariants as token
use Rattle.sentry_json.proofs.TokenLists.{value_is}
use Rattle.sentry_json.proofs.tape.tree.scalar_value.Goals as goal

pub returns-in-Null : goal.returns-in-Null
returns-in-Null c =
    let seen : view Null ≡ null = search (rules, the_lemmas) in
    seen ∙ sym (ap (λ t. value_of t []) c.in-Null.is ∙ value_is token.Null [])
