-- What stands after a header, as a function.
use Rattle.std.proofs.Common.{◌≡◌, ◌≢◌, ◌⊎◌, inl, inr, ℕ, ◌<◌, ◌==◌, List, [], ◌∷◌, ◌++◌, true, false, eqb, ltb, nat_lt, if◌then◌else◌, Option, Some, None, length, take, drop, refl, sym, ◌∙◌, ap, ap₂, subst, append-nil, length-append, length-take-le, take-append-drop, ne_eqb, lt-ltb, le-ltb, arith}
use Rattle.std.proofs.lemmas.Bool.{cases_eq, cases_lt}
use Rattle.std.proofs.lemmas.List.{take_at, drop_at}
use Rattle.std.proofs.lemmas.List.Elements.{All-head, All-tail, All-cons, All-nil}
use Rattle.sentry_json.specs.Line.{newline, HasNoNewline}
use Rattle.sentry_framing.specs.Framing.{EndsLine, GoesOn, HasSize, Follows}

pub data Tail : Type 0 where
  cut : List ℕ → List ℕ → Tail
  short : Tail
  unended : Tail

abbrev pub IsShortTail : Option ℕ → List ℕ → Type 0
IsShortTail None after = ⊥
IsShortTail (Some n) after = (left : List ℕ) × EndsLine after left × (length left < n)

abbrev pub IsUnendedTail : Option ℕ → List ℕ → Type 0
IsUnendedTail stated after = GoesOn after ⊎ ((payload tail : List ℕ) × (stated ≡ Some (length payload)) × (after ≡ newline ∷ (payload ++ tail)) × GoesOn tail)

abbrev pub IsTail : Option ℕ → List ℕ → Tail → Type 0
IsTail stated after (cut payload rest) = HasSize stated payload × Follows after payload rest
IsTail stated after short = IsShortTail stated after
IsTail stated after unended = IsUnendedTail stated after

abbrev ended : List ℕ → List ℕ → Tail
ended payload [] = cut payload []
ended payload (b ∷ rest) = if b == 10 then cut payload rest else unended

abbrev before_newline : List ℕ → List ℕ
before_newline [] = []
before_newline (b ∷ x) = if b == 10 then [] else b ∷ before_newline x

abbrev from_newline : List ℕ → List ℕ
from_newline [] = []
from_newline (b ∷ x) = if b == 10 then b ∷ x else from_newline x

abbrev split : Option ℕ → List ℕ → Tail
split None x = ended (before_newline x) (from_newline x)
split (Some n) x = if nat_lt (length x) n then short else ended (take n x) (drop n x)

abbrev pub tail_of : Option ℕ → List ℕ → Tail
tail_of stated [] = split stated []
tail_of stated (b ∷ x) = if b == 10 then split stated x else unended

-- ---- each relation makes the function

-- the end, or NL
abbrev Ends : List ℕ → Type 0
Ends tail = (tail ≡ []) ⊎ ((rest : List ℕ) × (tail ≡ 10 ∷ rest))

no_newline_before : (p tail : List ℕ) → HasNoNewline p → Ends tail → before_newline (p ++ tail) ≡ p
no_newline_before [] tail h (inl e) = ap before_newline e
no_newline_before [] tail h (inr e) = ap before_newline e.1
no_newline_before (b ∷ p) tail h e =
    let ne : eqb b 10 ≡ false = ne_eqb b 10 (All-head (λ c. c ≢ newline) b p h) in
    rw ne (ap (λ x. b ∷ x) (no_newline_before p tail (All-tail (λ c. c ≢ newline) b p h) e))

newline_from : (p tail : List ℕ) → HasNoNewline p → Ends tail → from_newline (p ++ tail) ≡ tail
newline_from [] tail h (inl e) = ap from_newline e ∙ sym e
newline_from [] tail h (inr e) = ap from_newline e.1 ∙ sym e.1
newline_from (b ∷ p) tail h e =
    let ne : eqb b 10 ≡ false = ne_eqb b 10 (All-head (λ c. c ≢ newline) b p h) in
    rw ne (newline_from p tail (All-tail (λ c. c ≢ newline) b p h) e)

split_long : (n : ℕ) (p tail : List ℕ) → length p ≡ n → split (Some n) (p ++ tail) ≡ ended p tail
split_long n p tail e =
    let long : ltb (length (p ++ tail)) n ≡ false = le-ltb (length (p ++ tail)) n (omega (arith, length-append p tail)) in
    rw long (ap₂ ended (take_at p tail n e) (drop_at p tail n e))

split_is : (stated : Option ℕ) (p tail : List ℕ) → HasSize stated p → Ends tail → split stated (p ++ tail) ≡ ended p tail
split_is None p tail h e = ap₂ ended (no_newline_before p tail h e) (newline_from p tail h e)
split_is (Some n) p tail h e = split_long n p tail h

payload_split : (stated : Option ℕ) (p tail : List ℕ) → HasSize stated p → Ends tail → (after : List ℕ) → after ≡ 10 ∷ (p ++ tail) → tail_of stated after ≡ ended p tail
payload_split stated p tail h e after is = ap (tail_of stated) is ∙ split_is stated p tail h e

cut_is : (stated : Option ℕ) (after p r : List ℕ) → HasSize stated p → Follows after p r → tail_of stated after ≡ cut p r
cut_is stated after p r h (inl (a, b, c)) =
    let none : HasSize stated [] = subst (HasSize stated) b h in
    ap (tail_of stated) a ∙ split_is stated [] [] none (inl refl) ∙ ap₂ cut (sym b) (sym c)
cut_is stated after p r h (inr (inl (a, c))) =
    payload_split stated p [] h (inl refl) after (a ∙ ap (λ x. 10 ∷ x) (sym (append-nil p))) ∙ ap (cut p) (sym c)
cut_is stated after p r h (inr (inr a)) = payload_split stated p (10 ∷ r) h (inr (r, refl)) after a

-- too few bytes are left
short_split : (n : ℕ) (left : List ℕ) → length left < n → split (Some n) left ≡ short
short_split n left h = let few : ltb (length left) n ≡ true = lt-ltb (length left) n h in rw few

short_is : (stated : Option ℕ) (after : List ℕ) → IsShortTail stated after → tail_of stated after ≡ short
short_is None after h = absurd h
short_is (Some n) after (left, inl (a, b), h) = ap (tail_of (Some n)) a ∙ short_split n [] (subst (λ x. length x < n) b h)
short_is (Some n) after (left, inr a, h) = ap (tail_of (Some n)) a ∙ short_split n left h

goes_on_is : (stated : Option ℕ) (after : List ℕ) → GoesOn after → tail_of stated after ≡ unended
goes_on_is stated after (b, more, e, ne) =
    let no : eqb b 10 ≡ false = ne_eqb b 10 ne in
    ap (tail_of stated) e ∙ rw no

ended_goes_on : (p tail : List ℕ) → GoesOn tail → ended p tail ≡ unended
ended_goes_on p tail (b, more, e, ne) =
    let no : eqb b 10 ≡ false = ne_eqb b 10 ne in
    ap (ended p) e ∙ rw no

unended_is : (stated : Option ℕ) (after : List ℕ) → IsUnendedTail stated after → tail_of stated after ≡ unended
unended_is stated after (inl h) = goes_on_is stated after h
unended_is stated after (inr (p, tail, s, e, h)) =
    ap₂ tail_of s e ∙ split_long (length p) p tail refl ∙ ended_goes_on p tail h

pub tail_is : (stated : Option ℕ) (after : List ℕ) (t : Tail) → IsTail stated after t → tail_of stated after ≡ t
tail_is stated after (cut p r) h = cut_is stated after p r h.0 h.1
tail_is stated after short h = short_is stated after h
tail_is stated after unended h = unended_is stated after h

-- ---- the function keeps the relation

-- a payload whose line ends
line_ends : (stated : Option ℕ) (p tail : List ℕ) → HasSize stated p → Ends tail → (t : Tail) × IsTail stated (10 ∷ (p ++ tail)) t
line_ends stated p tail h (inl e) = (cut p [], (h, inr (inl (ap (λ y. 10 ∷ y) (ap (λ y. p ++ y) e ∙ append-nil p), refl))))
line_ends stated p tail h (inr (rest, e)) = (cut p rest, (h, inr (inr (ap (λ y. 10 ∷ (p ++ y)) e))))

-- a payload of a stated length, whose line may go on
sized_ends : (p tail : List ℕ) → (t : Tail) × IsTail (Some (length p)) (10 ∷ (p ++ tail)) t
sized_ends p [] = line_ends (Some (length p)) p [] refl (inl refl)
sized_ends p (b ∷ rest) = elim (cases_eq b 10) [
  | inl e ↦ line_ends (Some (length p)) p (b ∷ rest) refl (inr (rest, ap (λ c. c ∷ rest) e))
  | inr ne ↦ (unended, inr (p, b ∷ rest, refl, refl, (b, rest, refl, ne)))
]

-- the bytes before the first NL, and what follows
at_newline : (x : List ℕ) → (p tail : List ℕ) × (x ≡ p ++ tail) × HasNoNewline p × Ends tail
at_newline [] = ([], [], refl, All-nil (λ b. b ≢ newline), inl refl)
at_newline (b ∷ x) = elim (cases_eq b 10) [
  | inl e ↦ ([], b ∷ x, refl, All-nil (λ b. b ≢ newline), inr (x, ap (λ c. c ∷ x) e))
  | inr ne ↦ let (p, tail, parts, h, ends) = at_newline x in (b ∷ p, tail, ap (λ y. b ∷ y) parts, All-cons (λ b. b ≢ newline) b p ne h, ends)
]

after_newline : (stated : Option ℕ) (x : List ℕ) → (t : Tail) × IsTail stated (10 ∷ x) t
after_newline None x =
    let (p, tail, parts, h, ends) = at_newline x in
    subst (λ y. (t : Tail) × IsTail None (10 ∷ y) t) (sym parts) (line_ends None p tail h ends)
after_newline (Some n) x = elim (cases_lt (length x) n) [
  | inl h ↦ (short, (x, inr refl, h))
  | inr h ↦
      let long : length (take n x) ≡ n = length-take-le n x h in
      subst (λ y. (t : Tail) × IsTail (Some n) (10 ∷ y) t) (take-append-drop n x)
      (subst (λ m. (t : Tail) × IsTail (Some m) (10 ∷ (take n x ++ drop n x)) t) long (sized_ends (take n x) (drop n x)))
]

at_end : (stated : Option ℕ) → (t : Tail) × IsTail stated [] t
at_end None = (cut [] [], (All-nil (λ b. b ≢ newline), inl (refl, refl, refl)))
at_end (Some n) = elim (cases_lt 0 n) [
  | inl h ↦ (short, ([], inl (refl, refl), h))
  | inr h ↦ (cut [] [], (omega arith, inl (refl, refl, refl)))
]

pub some_tail : (stated : Option ℕ) (after : List ℕ) → (t : Tail) × IsTail stated after t
some_tail stated [] = at_end stated
some_tail stated (b ∷ x) = elim (cases_eq b 10) [
  | inl e ↦ subst (λ c. (t : Tail) × IsTail stated (c ∷ x) t) (sym e) (after_newline stated x)
  | inr ne ↦ (unended, inl (b, x, refl, ne))
]
