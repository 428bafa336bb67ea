use Rattle.std.proofs.Common.{◌∙◌, ◌++◌, ◌∷◌, [], ap, ap₂}
use Rattle.json.specs.Print.{print}
use Rattle.json.specs.Token.{string}
use Rattle.serde_json.specs.Read.{read}
use Rattle.sentry_making.proofs.JsonTexts.{printed_string, string_reads}
use Rattle.sentry_making.proofs.texts.json_text.Goals as goal

pub returns-clause-text : goal.returns-clause-text
returns-clause-text c =
    let s = c.args.text.now in
    let tokens = c.in_ok-string.ensures.ok ∙ ap (λ ts. ts ++ string s ∷ []) c.new-writer.ensures.tokens in
    let before = c.string.ensures.room.0 ∙ c.new-writer.ensures.before ∙ c.new.ensures.items in
    c.into_inner.ensures.items ∙ ap₂ (λ b ts. b ++ print ts) before tokens ∙ printed_string s

pub returns-clause-reads : goal.returns-clause-reads
returns-clause-reads c =
    let s = c.args.text.now in
    let tokens = c.in_ok-string.ensures.ok ∙ ap (λ ts. ts ++ string s ∷ []) c.new-writer.ensures.tokens in
    let before = c.string.ensures.room.0 ∙ c.new-writer.ensures.before ∙ c.new.ensures.items in
    ap read (c.into_inner.ensures.items ∙ ap₂ (λ b ts. b ++ print ts) before tokens ∙ printed_string s) ∙ string_reads s c.utf8.text
