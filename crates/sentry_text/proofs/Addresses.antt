-- Which texts are addresses, and what they are read as.
use Rattle.std.proofs.Common.{◌≡◌, ◌⊎◌, inl, inr, ℕ, ◌^◌, ◌<◌, ◌||◌, ◌==◌, true, false, List, [], ◌∷◌, drop, Some, refl, sym, ap, subst, ◌∙◌, ◌↔◌, arith}
use Rattle.std.specs.Char.{digit_value}
use Rattle.std.specs.Fmt.{digits}
use Rattle.std.specs.Str.Parse.{AllDigits, without_leading_plus}
use Rattle.std.proofs.lemmas.Bool.{cond-false, cases_Bool, and_parts, and_right, or_cases, eqb-true, false_from_ne_true, true≢false}
use Rattle.sentry_text.specs.Number.{IsNumber, number_of}
use Rattle.sentry_text.specs.Address.{IsAddress, has_hex_front, address_of, address_text}
use Rattle.sentry_text.proofs.NumberTexts.{number_of_iff, written_number}

pub hex_address : (text rest : List ℕ) (x : ℕ) → text ≡ 48 ∷ x ∷ rest → (x ≡ 120) ⊎ (x ≡ 88) → address_of text ≡ number_of 16 rest
unfolding address_of
hex_address text rest x e (inl f) = ap address_of (e ∙ ap (λ (y : ℕ). 48 ∷ y ∷ rest) f)
hex_address text rest x e (inr f) = ap address_of (e ∙ ap (λ (y : ℕ). 48 ∷ y ∷ rest) f)

-- a text with a front of base 16 is that front and the rest
front_parts : (text : List ℕ) → has_hex_front text ≡ true → (text ≡ 48 ∷ 120 ∷ drop 2 text) ⊎ (text ≡ 48 ∷ 88 ∷ drop 2 text)
front_parts [] e = absurd (true≢false (sym e))
front_parts (a ∷ []) e = absurd (true≢false (sym e ∙ and_right (a == 48) false refl))
front_parts (a ∷ b ∷ rest) e =
    let both = and_parts (a == 48) ((b == 120) || (b == 88)) e in
    let first : a ≡ 48 = eqb-true a 48 both.0 in
    elim (or_cases (b == 120) (b == 88) both.1) [
      | inl x ↦ let second : b ≡ 120 = eqb-true b 120 x in inl cc
      | inr x ↦ let second : b ≡ 88 = eqb-true b 88 x in inr cc
    ]

plain_address : (text : List ℕ) → has_hex_front text ≡ false → address_of text ≡ number_of 10 text
unfolding address_of
plain_address text f = cond-false (has_hex_front text) _ _ f

pub decimal_address : (text : List ℕ) → ((rest : List ℕ) → text ≡ 48 ∷ 120 ∷ rest → ⊥) → ((rest : List ℕ) → text ≡ 48 ∷ 88 ∷ rest → ⊥) → address_of text ≡ number_of 10 text
decimal_address text none nor =
    plain_address text (false_from_ne_true (has_hex_front text) (λ t. elim (front_parts text t) [ inl e ↦ none _ e | inr e ↦ nor _ e ]))

-- a number in base 10 has no such front
no_front : (text rest : List ℕ) (x n : ℕ) → 10 < digit_value x → text ≡ 48 ∷ x ∷ rest → IsNumber 10 text n → ⊥
no_front text rest x n large e h =
    let digits : AllDigits 10 (48 ∷ x ∷ rest) = subst (λ (t : List ℕ). AllDigits 10 (without_leading_plus t)) e h.digits.1 in
    omega (arith, large, digits.1.0)

pub address_of_iff : (text : List ℕ) (n : ℕ) → address_of text ≡ Some n ↔ IsAddress text n
address_of_iff text n = (to, from)
  where
    of_rest : (x : ℕ) → (x ≡ 120) ⊎ (x ≡ 88) → text ≡ 48 ∷ x ∷ drop 2 text → address_of text ≡ Some n → IsNumber 16 (drop 2 text) n
    of_rest x which e h = (number_of_iff 16 (drop 2 text) n).0 (sym (hex_address text (drop 2 text) x e which) ∙ h)

    to : address_of text ≡ Some n → IsAddress text n
    to h =
        elim (cases_Bool (has_hex_front text)) [
          | inl t ↦ elim (front_parts text t) [
            | inl e ↦ inl (drop 2 text, inl e, of_rest 120 (inl refl) e h)
            | inr e ↦ inl (drop 2 text, inr e, of_rest 88 (inr refl) e h)
          ]
          | inr f ↦ inr ((number_of_iff 10 text n).0 (sym (plain_address text f) ∙ h))
        ]

    from : IsAddress text n → address_of text ≡ Some n
    from (inl (rest, inl e, h)) = hex_address text rest 120 e (inl refl) ∙ (number_of_iff 16 rest n).1 h
    from (inl (rest, inr e, h)) = hex_address text rest 88 e (inr refl) ∙ (number_of_iff 16 rest n).1 h
    from (inr h) =
        decimal_address text (λ rest e. no_front text rest 120 n (omega arith) e h) (λ rest e. no_front text rest 88 n (omega arith) e h)
        ∙ (number_of_iff 10 text n).1 h

pub written_address : (n : ℕ) → n < 2 ^ 64 → address_of (address_text n) ≡ Some n
written_address n small =
    hex_address (address_text n) (digits 16 false n) 120 refl (inl refl) ∙ written_number 16 n (omega arith) (omega arith) (omega arith) small
