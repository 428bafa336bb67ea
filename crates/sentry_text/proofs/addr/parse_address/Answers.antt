use Rattle.std.proofs.Common.{ℕ, List, ◌∷◌, refl, sym, ap, ◌∙◌, inl, inr}
use Rattle.sentry_text.proofs.Addresses.{hex_address, decimal_address}
use Rattle.sentry_text.proofs.addr.parse_address.Goals as goal

pub returns-in-Some : goal.returns-in-Some
returns-in-Some c =
    let h = c.in-Some.ensures.cases in
    c.parse_number.ensures ∙ sym (hex_address c.args.text.now c.in-Some.digits.now 120 (h.1.1 ∙ ap (λ (t : List ℕ). 48 ∷ 120 ∷ t) (sym h.2)) (inl refl))

pub returns-in-Some-strip_prefix : goal.returns-in-Some-strip_prefix
returns-in-Some-strip_prefix c =
    let h = c.in-Some-strip_prefix.ensures.cases in
    c.parse_number-in-Some-strip_prefix.ensures ∙ sym (hex_address c.args.text.now c.in-Some-strip_prefix.digits.now 88 (h.1.1 ∙ ap (λ (t : List ℕ). 48 ∷ 88 ∷ t) (sym h.2)) (inr refl))

pub returns-in-None-strip_prefix : goal.returns-in-None-strip_prefix
returns-in-None-strip_prefix c =
    c.parse_number-in-None-strip_prefix.ensures ∙ sym (decimal_address c.args.text.now c.in-None.ensures.cases c.in-None-strip_prefix.ensures.cases)
