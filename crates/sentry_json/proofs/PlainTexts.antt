-- Texts without a quote, a backslash or a control byte stand for themselves.
use Rattle.std.proofs.Common.{◌≡◌, ℕ, ◌≤◌, true, List, [], ◌∷◌, ◌++◌, refl, sym, ap, ◌∙◌, arith}
use Rattle.std.proofs.lemmas.Bool.{and_parts}
use Rattle.std.proofs.lemmas.Bool.Decides.{nat_tests}
use Rattle.json.specs.Run.{is_plain}
use Rattle.sentry_json.specs.PlainTexts.{is_plain_text}
use Rattle.sentry_json.specs.Spelled.{IsQuoted}
use Rattle.json.specs.Lex.{lex, in_string}
use Rattle.json.specs.Text.{content, plain}
use Rattle.json.specs.Print.{escape}
use Rattle.json.proofs.Printed.Strings.{escape_byte_plain, content-escape, lex-escape}

-- what such a byte is not
pub no_stop : (x : ℕ) → is_plain x ≡ true → (x ≡ 34 → ⊥) × (x ≡ 92 → ⊥) × (32 ≤ x)
no_stop x h = (λ e. grind (arith, nat_tests), λ e. grind (arith, nat_tests), grind (arith, nat_tests))

pub plain_text : (xs : List ℕ) → is_plain_text xs ≡ true → escape xs ≡ xs
plain_text [] h = refl
plain_text (x ∷ xs) h =
    let both = and_parts _ _ h in
    let first = no_stop x both.0 in
    rw (escape_byte_plain x first.0 first.1 first.2, plain_text xs both.1) refl

-- what stands up to the closing quote is the content
pub plain_quoted : (inside front stop rest : List ℕ) → inside ≡ front ++ stop → stop ≡ 34 ∷ rest → is_plain_text front ≡ true → IsQuoted inside front rest
plain_quoted inside front stop rest parts last clean =
    let whole : inside ≡ escape front ++ 34 ∷ rest = parts ∙ ap (λ s. front ++ s) last ∙ ap (λ f. f ++ 34 ∷ rest) (sym (plain_text front clean)) in
    record { read = ap (content plain) whole ∙ content-escape front rest; lexed = ap (lex in_string) whole ∙ lex-escape front rest }
