-- Where lines end.
use Rattle.std.proofs.Common.{inl, inr, ℕ, ◌+◌, ◌<◌, List, [], ◌∷◌, Option, Some, None, unwrap_or, length, get_or, drop, refl, ap, ◌∙◌, arith, eqb-true}
use Rattle.std.proofs.lemmas.List.{drop_more, drop_all}
use Rattle.memchr.specs.Find.{IsFirstByte, is_byte}
use Rattle.sentry_framing.specs.Framing.{EndsLine}

pub line_ends : (bytes : List ℕ) (r : Option ℕ) → IsFirstByte (is_byte 10) bytes r → (next : List ℕ) × EndsLine (drop (unwrap_or r (length bytes)) bytes) next
line_ends bytes None h = ([], inl (drop_all (length bytes) bytes (omega arith), refl))
line_ends bytes (Some k) h =
    let high : k < length bytes = h.0.high in
    (drop (k + 1) bytes, inr (drop_more bytes k 0 high ∙ ap (λ b. b ∷ drop (k + 1) bytes) (eqb-true (get_or bytes k 0) 10 h.1)))
