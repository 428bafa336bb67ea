-- White space at the front of a text.
use Rattle.std.proofs.Common.{◌≡◌, ℕ, List, ◌∷◌, true, refl, ap, ◌∙◌}
use Rattle.json.specs.Lex.{lex, between, class, space}
use Rattle.json.specs.Word.{ends_word}
use Rattle.sentry_json.specs.Spelled.{IsSpaced}

pub one_space : (text rest : List ℕ) (x : ℕ) → text ≡ x ∷ rest → class x ≡ space → ends_word (x ∷ rest) ≡ true → IsSpaced text rest
unfolding lex
one_space text rest x is white ended = record { lexed = ap (lex between) is ∙ rw white refl; ended = λ ends. ap ends_word is ∙ ended }
