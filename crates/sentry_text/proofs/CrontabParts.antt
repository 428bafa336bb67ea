-- A text is cut into words in one way.
use Rattle.std.proofs.Common.{◌≡◌, ℕ, ◌<◌, ◌⊎◌, inl, inr, Bool, true, false, not, List, [], ◌∷◌, ◌++◌, length, refl, sym, ap, subst, ◌∙◌, arith, length-append, append_assoc, append-nil, ◌↔◌, IsTrue, eqb}
use Rattle.std.proofs.lemmas.Bool.{eqb-true, eq-eqb}
use Rattle.std.specs.Char.{encode_utf8, is_whitespace, is_not_whitespace}
use Rattle.std.specs.Prelude.{encode_utf8_all}
use Rattle.std.specs.Str.{NonePass, NoCharPasses, EmptyOrStartsWithPassing}
use Rattle.std.proofs.lemmas.Str.{encode_same, length-encode, len_utf8_bounds}
use Rattle.sentry_text.specs.declared.crontab.field.Field.{Field}
use Rattle.sentry_text.specs.Crontab.{StartsWithWord, SplitsInto}
use Rattle.sentry_text.specs.Crontab.{IsPart, AreParts}

-- the text is empty or begins with a character that passes
abbrev Stops : (ℕ → Bool) → List ℕ → Type 0
Stops p x = (x ≡ []) ⊎ ((c : ℕ) × (more : List ℕ) × (p c ≡ true) × (x ≡ encode_utf8 c ++ more))

encode_some : (c : ℕ) (x : List ℕ) → encode_utf8 c ++ x ≡ [] → ⊥
encode_some c x e = omega (arith, ap length e, length-append (encode_utf8 c) x, length-encode c, len_utf8_bounds c)

no_front : (p : ℕ → Bool) (d : ℕ) (x y : List ℕ) → p d ≡ false → Stops p x → x ≡ encode_utf8 d ++ y → ⊥
no_front p d x y fails (inl empty) e = encode_some d y (sym e ∙ empty)
no_front p d x y fails (inr (c, more, passes, is)) e =
    let same = (encode_same c d more y (sym is ∙ e)).0 in
    let both : true ≡ false = sym passes ∙ ap p same ∙ fails in
    absurd cc

same_run : (p : ℕ → Bool) (cs ds x y : List ℕ) → NonePass p cs → NonePass p ds → Stops p x → Stops p y → encode_utf8_all cs ++ x ≡ encode_utf8_all ds ++ y → (cs ≡ ds) × (x ≡ y)
same_run p [] [] x y h k s t e = (refl, e)
same_run p [] (d ∷ ds) x y h k s t e = absurd (no_front p d x (encode_utf8_all ds ++ y) k.0 s (e ∙ append_assoc (encode_utf8 d) (encode_utf8_all ds) y))
same_run p (c ∷ cs) [] x y h k s t e = absurd (no_front p c y (encode_utf8_all cs ++ x) h.0 t (sym e ∙ append_assoc (encode_utf8 c) (encode_utf8_all cs) x))
same_run p (c ∷ cs) (d ∷ ds) x y h k s t e =
    let apart = encode_same c d (encode_utf8_all cs ++ x) (encode_utf8_all ds ++ y) (sym (append_assoc (encode_utf8 c) (encode_utf8_all cs) x) ∙ e ∙ append_assoc (encode_utf8 d) (encode_utf8_all ds) y) in
    let rest = same_run p cs ds x y h.1 k.1 s t apart.1 in
    let first = apart.0 in
    let others = rest.0 in
    (cc, rest.1)

-- two texts with one such front
same_front : (p : ℕ → Bool) (a b x y : List ℕ) → NoCharPasses p a → NoCharPasses p b → Stops p x → Stops p y → a ++ x ≡ b ++ y → (a ≡ b) × (x ≡ y)
same_front p a b x y h k s t e =
    let r = same_run p h.0 k.0 x y h.2 k.2 s t (ap (λ (t : List ℕ). t ++ x) h.1 ∙ e ∙ ap (λ (t : List ℕ). t ++ y) (sym k.1)) in
    (sym h.1 ∙ ap encode_utf8_all r.0 ∙ k.1, r.1)

stops_at_rest : (rest : List ℕ) → (more : List ℕ) × EmptyOrStartsWithPassing is_whitespace rest more → Stops is_whitespace rest
stops_at_rest [] h = inl refl
stops_at_rest (b ∷ bs) h = let c = h.1 (omega arith) in inr (c.0, h.0, c.1, c.2)

stops_at_chars : (cs w rest : List ℕ) → encode_utf8_all cs ≡ w → NonePass is_whitespace cs → 0 < length w → Stops is_not_whitespace (w ++ rest)
stops_at_chars [] w rest e h long = absurd (omega (arith, ap length e))
stops_at_chars (c ∷ cs) w rest e h long =
    inr (c, encode_utf8_all cs ++ rest, ap not h.0, ap (λ (t : List ℕ). t ++ rest) (sym e) ∙ append_assoc (encode_utf8 c) (encode_utf8_all cs) rest)

stops_at_word : (text w rest : List ℕ) → StartsWithWord text w rest → Stops is_not_whitespace (w ++ rest)
stops_at_word text w rest s = stops_at_chars s.word_has_no_space.0 w rest s.word_has_no_space.1 s.word_has_no_space.2 s.nonempty

-- a text begins with one word
pub same_word : (text w rest v more : List ℕ) → StartsWithWord text w rest → StartsWithWord text v more → (w ≡ v) × (rest ≡ more)
same_word text w rest v more s t =
    let after_gap = same_front is_not_whitespace s.gap t.gap (w ++ rest) (v ++ more) s.gap_is_blank t.gap_is_blank (stops_at_word text w rest s) (stops_at_word text v more t) (sym s.split ∙ t.split) in
    same_front is_whitespace w v rest more s.word_has_no_space t.word_has_no_space (stops_at_rest rest s.rest_starts_blank) (stops_at_rest more t.rest_starts_blank) after_gap.1

-- and a blank text with none
pub blank_has_none : (text w rest : List ℕ) → NoCharPasses is_not_whitespace text → StartsWithWord text w rest → ⊥
blank_has_none text w rest blank s =
    let after_gap = same_front is_not_whitespace s.gap text (w ++ rest) [] s.gap_is_blank blank (stops_at_word text w rest s) (inl refl) (sym s.split ∙ sym (append-nil text)) in
    omega (arith, s.nonempty, ap length after_gap.1, length-append w rest)

-- the rest of a text has a part for each of these fields
abbrev pub IsFrom : List Field → List ℕ → Type 0
IsFrom fields text = (parts : List (List ℕ)) × SplitsInto text parts × AreParts fields parts

from_head : (field : Field) (fields : List Field) (text w rest : List ℕ) (parts : List (List ℕ)) → StartsWithWord text w rest → SplitsInto text parts → AreParts (field ∷ fields) parts → IsPart field w × IsFrom fields rest
from_head field fields text w rest [] s splits are = absurd are
from_head field fields text w rest (v ∷ parts) s splits are =
    let same = same_word text v splits.0 w rest splits.1 s in
    (subst (IsPart field) same.0 are.0, (parts, subst (λ (t : List ℕ). SplitsInto t parts) same.1 splits.2, are.1))

pub from_word : (field : Field) (fields : List Field) (text w rest : List ℕ) → StartsWithWord text w rest → IsFrom (field ∷ fields) text ↔ IsPart field w × IsFrom fields rest
from_word field fields text w rest s =
    (λ h. from_head field fields text w rest h.0 s h.1 h.2, λ h. (w ∷ h.1.0, (rest, s, h.1.1), (h.0, h.1.2)))

too_many : (text w rest : List ℕ) (parts : List (List ℕ)) → StartsWithWord text w rest → SplitsInto text parts → AreParts [] parts → ⊥
too_many text w rest [] s splits are = blank_has_none text w rest splits s
too_many text w rest (v ∷ parts) s splits are = are

pub from_none : (text w rest : List ℕ) → StartsWithWord text w rest → IsFrom [] text → ⊥
from_none text w rest s h = too_many text w rest h.0 s h.1 h.2

at_end : (fields : List Field) (text : List ℕ) (parts : List (List ℕ)) → NoCharPasses is_not_whitespace text → SplitsInto text parts → AreParts fields parts → length fields ≡ 0
at_end [] text [] blank splits are = refl
at_end [] text (w ∷ parts) blank splits are = absurd are
at_end (f ∷ fs) text [] blank splits are = absurd are
at_end (f ∷ fs) text (w ∷ parts) blank splits are = absurd (blank_has_none text w splits.0 blank splits.1)

none_left : (fields : List Field) (text : List ℕ) → NoCharPasses is_not_whitespace text → length fields ≡ 0 → IsFrom fields text
none_left [] text blank e = ([], blank, tt)
none_left (f ∷ fs) text blank e = absurd (omega (arith, e))

pub from_end : (fields : List Field) (text : List ℕ) → NoCharPasses is_not_whitespace text → IsFrom fields text ↔ (length fields ≡ 0)
from_end fields text blank = (λ h. at_end fields text h.0 blank h.1 h.2, none_left fields text blank)

-- ---- one turn of the loop

pub starts_with : (text w rest : List ℕ) → (gap : List ℕ) × (text ≡ gap ++ (w ++ rest)) × (0 < length w) × NoCharPasses is_not_whitespace gap × NoCharPasses is_whitespace w × ((more : List ℕ) × EmptyOrStartsWithPassing is_whitespace rest more) → StartsWithWord text w rest
starts_with text w rest item = record { gap = item.0; split = item.1; nonempty = item.2; gap_is_blank = item.3; word_has_no_space = item.4; rest_starts_blank = item.5 }

empty_list : (fields : List Field) → length fields ≡ 0 → fields ≡ []
empty_list [] e = refl
empty_list (f ∷ fs) e = absurd (omega (arith, e))

pub too_long : {P : Type 0} (fields : List Field) (text w rest : List ℕ) → (P ↔ IsFrom fields text) → length fields ≡ 0 → StartsWithWord text w rest → IsTrue false ↔ P
too_long fields text w rest so_far none s =
    (λ t. absurd cc, λ p. absurd (from_none text w rest s (subst (λ (fs : List Field). IsFrom fs text) (empty_list fields none) (so_far.0 p))))

pub wrong_part : {P : Type 0} (fields : List Field) (field : Field) (others : List Field) (text w rest : List ℕ) → (P ↔ IsFrom fields text) → fields ≡ field ∷ others → StartsWithWord text w rest → (IsTrue false ↔ IsPart field w) → IsTrue false ↔ P
wrong_part fields field others text w rest so_far is s answer =
    (λ t. absurd cc, λ p. answer.1 ((from_word field others text w rest s).0 (subst (λ (fs : List Field). IsFrom fs text) is (so_far.0 p))).0)

pub right_part : {P : Type 0} (fields : List Field) (field : Field) (others : List Field) (text w rest : List ℕ) → (P ↔ IsFrom fields text) → fields ≡ field ∷ others → StartsWithWord text w rest → (IsTrue true ↔ IsPart field w) → P ↔ IsFrom others rest
right_part fields field others text w rest so_far is s answer = (
  λ p. ((from_word field others text w rest s).0 (subst (λ (fs : List Field). IsFrom fs text) is (so_far.0 p))).1,
  λ h. so_far.1 (subst (λ (fs : List Field). IsFrom fs text) (sym is) ((from_word field others text w rest s).1 (answer.0 refl, h))),
)

pub all_parts : {P : Type 0} (fields : List Field) (text : List ℕ) (r : Bool) → (P ↔ IsFrom fields text) → NoCharPasses is_not_whitespace text → r ≡ eqb (length fields) 0 → IsTrue r ↔ P
all_parts fields text r so_far blank is =
    (λ t. so_far.1 ((from_end fields text blank).1 (eqb-true (length fields) 0 (sym is ∙ t))), λ p. is ∙ eq-eqb (length fields) 0 ((from_end fields text blank).0 (so_far.0 p)))
