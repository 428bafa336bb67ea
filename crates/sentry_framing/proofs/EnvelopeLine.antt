-- Bytes have one header line and one body.
use Rattle.std.proofs.Common.{◌≡◌, ◌≢◌, inl, inr, ℕ, List, [], ◌∷◌, ◌++◌, refl, sym, ◌∙◌, ap, ap₂, subst}
use Rattle.std.proofs.lemmas.Bool.{cases_eq}
use Rattle.std.proofs.lemmas.List.Elements.{All-nil, All-cons, All-head, All-tail}
use Rattle.sentry_json.specs.Line.{newline, HasNoNewline}
use Rattle.sentry_framing.specs.Framing.{EndsLine, IsLineAndBody}
use Rattle.sentry_framing.proofs.Conses.{same_head, same_tail}

not_both_ends : (n : List ℕ) → [] ≡ newline ∷ n → ⊥
not_both_ends n e = cc

same_ends : (after m n : List ℕ) → EndsLine after m → EndsLine after n → m ≡ n
same_ends after m n (inl g) (inl h) = g.1 ∙ sym h.1
same_ends after m n (inl g) (inr h) = absurd (not_both_ends n (sym g.0 ∙ h))
same_ends after m n (inr g) (inl h) = absurd (not_both_ends m (sym h.0 ∙ g))
same_ends after m n (inr g) (inr h) = same_tail newline newline m n (sym g ∙ h)

-- what ends a line doesn't go on in it
not_before : (b : ℕ) (x a after next : List ℕ) → HasNoNewline (b ∷ x) → EndsLine after next → after ≡ (b ∷ x) ++ a → ⊥
not_before b x a after next clean (inl h) e = let nil : [] ≡ b ∷ (x ++ a) = sym h.0 ∙ e in cc
not_before b x a after next clean (inr h) e = All-head (λ c. c ≢ newline) b x clean (sym (same_head newline b next (x ++ a) (sym h ∙ e)))

same_parts : (l m a b n o : List ℕ) → HasNoNewline l → HasNoNewline m → EndsLine a n → EndsLine b o → l ++ a ≡ m ++ b → (l ≡ m) × (a ≡ b)
same_parts [] [] a b n o cl cm ea eb e = (refl, e)
same_parts [] (y ∷ m) a b n o cl cm ea eb e = absurd (not_before y m b a n cm ea e)
same_parts (x ∷ l) [] a b n o cl cm ea eb e = absurd (not_before x l a b o cl eb (sym e))
same_parts (x ∷ l) (y ∷ m) a b n o cl cm ea eb e =
    let (lines, ends) = same_parts l m a b n o (All-tail (λ c. c ≢ newline) x l cl) (All-tail (λ c. c ≢ newline) y m cm) ea eb (same_tail x y (l ++ a) (m ++ b) e) in
    (ap₂ (λ z zs. z ∷ zs) (same_head x y (l ++ a) (m ++ b) e) lines, ends)

pub same_line : (bytes l b m c : List ℕ) → IsLineAndBody bytes l b → IsLineAndBody bytes m c → (l ≡ m) × (b ≡ c)
same_line bytes l b m c g h =
    let (lines, ends) = same_parts l m g.after h.after b c g.no_newline h.no_newline g.ends h.ends (sym g.parts ∙ h.parts) in
    (lines, same_ends h.after b c (subst (λ x. EndsLine x b) ends g.ends) h.ends)

abbrev pub HasLine : List ℕ → Type 0
HasLine bytes = (line : List ℕ) × (body : List ℕ) × IsLineAndBody bytes line body

longer : (b : ℕ) (bytes : List ℕ) → b ≢ newline → HasLine bytes → HasLine (b ∷ bytes)
longer b bytes ne (line, body, h) =
    (b ∷ line, body, record { after = h.after; no_newline = All-cons (λ c. c ≢ newline) b line ne h.no_newline; parts = ap (λ x. b ∷ x) h.parts; ends = h.ends })

pub some_line : (bytes : List ℕ) → HasLine bytes
some_line [] = ([], [], record { after = []; no_newline = All-nil (λ c. c ≢ newline); parts = refl; ends = inl (refl, refl) })
some_line (b ∷ bytes) = elim (cases_eq b 10) [
  | inl e ↦ ([], bytes, record { after = b ∷ bytes; no_newline = All-nil (λ c. c ≢ newline); parts = refl; ends = inr (ap (λ c. c ∷ bytes) e) })
  | inr ne ↦ longer b bytes ne (some_line bytes)
]
