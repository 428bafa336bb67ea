-- The scan of a piece against the grammar, in both directions.
use Rattle.std.proofs.Common.{◌≡◌, ◌≢◌, inl, inr, ℕ, zero, suc, ◌+◌, ◌<◌, ◌≤◌, List, [], ◌∷◌, ◌++◌, length, get_or, take, drop, Some, arith, refl, sym, ◌∙◌, ap, subst, append_assoc, append-nil, add-one}
use Rattle.std.proofs.lemmas.Bool.{cases_eq}
use Rattle.std.proofs.lemmas.List.{append_cancel_right, drop_more, drop_all, take_more}
use Rattle.std.proofs.lemmas.Option.{none-some, same_Some}
use Rattle.sentry_json.specs.Balanced.{IsStringEnd, closed, byte, pair, IsBalanced, braces, IsInside, nothing, plain, string, piece}
use Rattle.sentry_framing.proofs.Conses.{same_tail}
use Rattle.sentry_framing.proofs.Machine.{Plain, InString, AfterBackslash, rest_after, plain_other, string_other, escaped, plain_quote, plain_open, plain_close, plain_last, nothing_left, string_quote, string_backslash}

-- ---- what the grammar has, the scan passes over

pub string_passes : {t : List ℕ} → IsStringEnd t → (s : List ℕ) (d : ℕ) → rest_after (t ++ s) InString d ≡ rest_after s Plain d
string_passes closed s d = string_quote s d
string_passes (byte {b} {s = t} q e h) s d = string_other b (t ++ s) d q e ∙ string_passes h s d
string_passes (pair {b} {s = t} h) s d = string_backslash (b ∷ (t ++ s)) d ∙ escaped b (t ++ s) d ∙ string_passes h s d

mutual
  balanced_passes : {p : List ℕ} → IsBalanced p → (t : List ℕ) (d : ℕ) → rest_after (p ++ t) Plain d ≡ rest_after t Plain d
  balanced_passes (braces {s} h) t d =
      plain_open ((s ++ 125 ∷ []) ++ t) d
      ∙ ap (λ x. rest_after x Plain (d + 1)) (append_assoc s (125 ∷ []) t)
      ∙ inside_passes h (125 ∷ t) (d + 1)
      ∙ plain_close t d

  inside_passes : {s : List ℕ} → IsInside s → (t : List ℕ) (d : ℕ) → rest_after (s ++ t) Plain d ≡ rest_after t Plain d
  inside_passes nothing t d = refl
  inside_passes (plain {b} {s} q o c h) t d = plain_other b (s ++ t) d q o c ∙ inside_passes h t d
  inside_passes (string {t = u} {s} e h) t d =
      plain_quote ((u ++ s) ++ t) d
      ∙ ap (λ x. rest_after x InString d) (append_assoc u s t)
      ∙ string_passes e (s ++ t) d
      ∙ inside_passes h t d
  inside_passes (piece {p} {s} b h) t d =
      ap (λ x. rest_after x Plain d) (append_assoc p s t)
      ∙ balanced_passes b (s ++ t) d
      ∙ inside_passes h t d

-- ---- what the scan finds, the grammar has

-- what is left once that many braces, opened before, are closed
abbrev pub Closes : ℕ → List ℕ → List ℕ → Type 0
Closes zero s rest = s ≡ rest
Closes (suc d) s rest = (i : List ℕ) × (m : List ℕ) × IsInside i × (s ≡ i ++ 125 ∷ m) × Closes d m rest

abbrev pub ClosesString : ℕ → List ℕ → List ℕ → Type 0
ClosesString d s rest = (t : List ℕ) × (m : List ℕ) × IsStringEnd t × (s ≡ t ++ m) × Closes (suc d) m rest

-- a part of the inside before what closes
before : (d : ℕ) (f s rest : List ℕ) → ((i : List ℕ) → IsInside i → IsInside (f ++ i)) → Closes (suc d) s rest → Closes (suc d) (f ++ s) rest
before d f s rest grows (i, m, h, e, more) =
    (f ++ i, m, grows i h, ap (λ x. f ++ x) e ∙ sym (append_assoc f i (125 ∷ m)), more)

nested : (d : ℕ) (s rest : List ℕ) → Closes (suc (suc d)) s rest → Closes (suc d) (123 ∷ s) rest
nested d s rest (i, m, h, e, more) =
    let inner : Closes (suc d) ((123 ∷ (i ++ 125 ∷ [])) ++ m) rest = before d (123 ∷ (i ++ 125 ∷ [])) m rest (λ j k. piece (braces h) k) more in
    subst (λ x. Closes (suc d) x rest) (sym (ap (λ x. 123 ∷ x) (e ∙ sym (append_assoc i (125 ∷ []) m)))) inner

quoted : (d : ℕ) (s rest : List ℕ) → ClosesString d s rest → Closes (suc d) (34 ∷ s) rest
quoted d s rest (t, m, h, e, more) =
    let inner : Closes (suc d) ((34 ∷ t) ++ m) rest = before d (34 ∷ t) m rest (λ j k. string h k) more in
    subst (λ x. Closes (suc d) x rest) (sym (ap (λ x. 34 ∷ x) e)) inner

longer : (d b : ℕ) (s rest : List ℕ) → b ≢ 34 → b ≢ 92 → ClosesString d s rest → ClosesString d (b ∷ s) rest
longer d b s rest q n (t, m, h, e, more) = (b ∷ t, m, byte q n h, ap (λ x. b ∷ x) e, more)

escaping : (d b : ℕ) (s rest : List ℕ) → ClosesString d s rest → ClosesString d (92 ∷ b ∷ s) rest
escaping d b s rest (t, m, h, e, more) = (92 ∷ b ∷ t, m, pair h, ap (λ x. 92 ∷ b ∷ x) e, more)

closing : (s : List ℕ) (d : ℕ) (rest : List ℕ) → ((c : ℕ) → rest_after s Plain c ≡ Some rest → Closes (suc c) s rest)
    → rest_after (125 ∷ s) Plain d ≡ Some rest → Closes (suc d) (125 ∷ s) rest
closing s zero rest after e = ([], s, nothing, refl, same_Some s rest (sym (plain_last s) ∙ e))
closing s (suc d) rest after e =
    let f : rest_after (125 ∷ s) Plain (d + 1) ≡ Some rest = ap (λ x. rest_after (125 ∷ s) Plain x) (add-one d) ∙ e in
    ([], s, nothing, refl, after d (sym (plain_close s d) ∙ f))

mutual
  sound_plain : (s : List ℕ) (d : ℕ) (rest : List ℕ) → rest_after s Plain d ≡ Some rest → Closes (suc d) s rest
  sound_plain [] d rest e = absurd (none-some rest (sym (nothing_left Plain d) ∙ e))
  sound_plain (b ∷ s) d rest e =
      elim (cases_eq b 34) [
        | inl is ↦
            let f : rest_after (34 ∷ s) Plain d ≡ Some rest = subst (λ x. rest_after (x ∷ s) Plain d ≡ Some rest) is e in
            subst (λ x. Closes (suc d) (x ∷ s) rest) (sym is) (quoted d s rest (sound_string s d rest (sym (plain_quote s d) ∙ f)))
        | inr q ↦ elim (cases_eq b 123) [
          | inl is ↦
              let f : rest_after (123 ∷ s) Plain d ≡ Some rest = subst (λ x. rest_after (x ∷ s) Plain d ≡ Some rest) is e in
              let g : rest_after s Plain (suc d) ≡ Some rest = ap (λ x. rest_after s Plain x) (sym (add-one d)) ∙ sym (plain_open s d) ∙ f in
              subst (λ x. Closes (suc d) (x ∷ s) rest) (sym is) (nested d s rest (sound_plain s (suc d) rest g))
          | inr o ↦ elim (cases_eq b 125) [
            | inl is ↦
                let f : rest_after (125 ∷ s) Plain d ≡ Some rest = subst (λ x. rest_after (x ∷ s) Plain d ≡ Some rest) is e in
                subst (λ x. Closes (suc d) (x ∷ s) rest) (sym is) (closing s d rest (λ c h. sound_plain s c rest h) f)
            | inr c ↦ before d (b ∷ []) s rest (λ i h. plain q o c h) (sound_plain s d rest (sym (plain_other b s d q o c) ∙ e))
          ]
        ]
      ]

  pub sound_string : (s : List ℕ) (d : ℕ) (rest : List ℕ) → rest_after s InString d ≡ Some rest → ClosesString d s rest
  sound_string [] d rest e = absurd (none-some rest (sym (nothing_left InString d) ∙ e))
  sound_string (b ∷ s) d rest e =
      elim (cases_eq b 34) [
        | inl is ↦
            let f : rest_after (34 ∷ s) InString d ≡ Some rest = subst (λ x. rest_after (x ∷ s) InString d ≡ Some rest) is e in
            (34 ∷ [], s, closed, ap (λ x. x ∷ s) is, sound_plain s d rest (sym (string_quote s d) ∙ f))
        | inr q ↦ elim (cases_eq b 92) [
          | inl is ↦
              let f : rest_after (92 ∷ s) InString d ≡ Some rest = subst (λ x. rest_after (x ∷ s) InString d ≡ Some rest) is e in
              subst (λ x. ClosesString d (x ∷ s) rest) (sym is) (sound_escape s d rest (sym (string_backslash s d) ∙ f))
          | inr n ↦ longer d b s rest q n (sound_string s d rest (sym (string_other b s d q n) ∙ e))
        ]
      ]

  sound_escape : (s : List ℕ) (d : ℕ) (rest : List ℕ) → rest_after s AfterBackslash d ≡ Some rest → ClosesString d (92 ∷ s) rest
  sound_escape [] d rest e = absurd (none-some rest (sym (nothing_left AfterBackslash d) ∙ e))
  sound_escape (b ∷ s) d rest e = escaping d b s rest (sound_string s d rest (sym (escaped b s d) ∙ e))

-- ---- pieces at the front of bytes

pub found_inside : (inside rest : List ℕ) → rest_after inside Plain 0 ≡ Some rest → (s : List ℕ) × IsInside s × (inside ≡ s ++ 125 ∷ rest)
found_inside inside rest e = let (i, m, h, is, same) = sound_plain inside 0 rest e in (i, h, is ∙ ap (λ x. i ++ 125 ∷ x) same)

inside_is : (s rest : List ℕ) → IsInside s → rest_after (s ++ 125 ∷ rest) Plain 0 ≡ Some rest
inside_is s rest h = inside_passes h (125 ∷ rest) 0 ∙ plain_last rest

-- the bytes after the first are those of a piece and what follows it
pub after_open : (p rest : List ℕ) → IsBalanced p → (inside : List ℕ) × (p ++ rest ≡ 123 ∷ inside) × (rest_after inside Plain 0 ≡ Some rest)
after_open p rest (braces {s} h) =
    (s ++ 125 ∷ rest, ap (λ x. 123 ∷ x) (append_assoc s (125 ∷ []) rest), inside_is s rest h)

-- bytes begin with one piece at most
pub same_rest : (p q x y : List ℕ) → IsBalanced p → IsBalanced q → p ++ x ≡ q ++ y → x ≡ y
same_rest p q x y hp hq e =
    let a = after_open p x hp in
    let b = after_open q y hq in
    let same : a.0 ≡ b.0 = same_tail 123 123 a.0 b.0 (sym a.1 ∙ e ∙ b.1) in
    same_Some x y (sym a.2 ∙ ap (λ z. rest_after z Plain 0) same ∙ b.2)

pub same_piece : (p q x y : List ℕ) → IsBalanced p → IsBalanced q → p ++ x ≡ q ++ y → p ≡ q
same_piece p q x y hp hq e =
    append_cancel_right p q y (ap (λ z. p ++ z) (sym (same_rest p q x y hp hq e)) ∙ e)

pub not_longer : (p q rest : List ℕ) → IsBalanced p → IsBalanced q → p ++ rest ≡ q → rest ≡ []
not_longer p q rest hp hq e = same_rest p q rest [] hp hq (e ∙ sym (append-nil q))

-- ---- the end of a string, byte by byte

-- a string that ends after these bytes ends after the first of them too
past_byte : (next u rest : List ℕ) (b : ℕ) → b ≢ 34 → b ≢ 92 → IsStringEnd u → b ∷ next ≡ u ++ rest → (v : List ℕ) × IsStringEnd v × (next ≡ v ++ rest)
past_byte next u rest b q n closed e = absurd (q cc)
past_byte next u rest b q n (byte {s} x y h) e = (s, h, cc)
past_byte next u rest b q n (pair h) e = absurd (n cc)

not_same : ◌≡◌ {A = ℕ} 92 34 → ⊥
not_same e = omega arith

past_pair : (next u rest : List ℕ) (b : ℕ) → IsStringEnd u → 92 ∷ b ∷ next ≡ u ++ rest → (v : List ℕ) × IsStringEnd v × (next ≡ v ++ rest)
past_pair next u rest b closed e = absurd (not_same cc)
past_pair next u rest b (byte {s} x y h) e = absurd (y cc)
past_pair next u rest b (pair {s} h) e = (s, h, cc)

no_end : (u rest : List ℕ) → IsStringEnd u → [] ≡ u ++ rest → ⊥
no_end u rest closed e = cc
no_end u rest (byte x y h) e = cc
no_end u rest (pair h) e = cc

no_pair : (u rest : List ℕ) → IsStringEnd u → 92 ∷ [] ≡ u ++ rest → ⊥
no_pair u rest closed e = not_same cc
no_pair u rest (byte x y h) e = y cc
no_pair u rest (pair h) e = cc

-- the bytes from the place i on begin with the end of a string
abbrev pub Ends : List ℕ → ℕ → List ℕ → Type 0
Ends s i rest = (u : List ℕ) × IsStringEnd u × (drop i s ≡ u ++ rest)

module _ (s : List ℕ) (i : ℕ) (within : i < length s) (rest : List ℕ) (ends : Ends s i rest) where
  pub ends_byte : get_or s i 0 ≢ 34 → get_or s i 0 ≢ 92 → Ends s (i + 1) rest
  ends_byte q n = past_byte (drop (i + 1) s) ends.0 rest (get_or s i 0) q n ends.1 (sym (drop_more s i 0 within) ∙ ends.2)

  pub ends_pair : get_or s i 0 ≡ 92 → i + 1 < length s → Ends s (i + 2) rest
  ends_pair is more =
      let two : drop i s ≡ 92 ∷ get_or s (i + 1) 0 ∷ drop (i + 2) s = drop_more s i 0 within ∙ ap (λ b. b ∷ drop (i + 1) s) is ∙ ap (λ x. 92 ∷ x) (drop_more s (i + 1) 0 more ∙ ap (λ n. get_or s (i + 1) 0 ∷ drop n s) (omega arith)) in
      past_pair (drop (i + 2) s) ends.0 rest (get_or s (i + 1) 0) ends.1 (sym two ∙ ends.2)

  pub ends_cut : get_or s i 0 ≡ 92 → length s ≤ i + 1 → ⊥
  ends_cut is last =
      let one : drop i s ≡ 92 ∷ [] = drop_more s i 0 within ∙ ap (λ b. b ∷ drop (i + 1) s) is ∙ ap (λ x. 92 ∷ x) (drop_all (i + 1) s last) in
      no_pair ends.0 rest ends.1 (sym one ∙ ends.2)

pub ends_past : (s : List ℕ) (i : ℕ) (rest : List ℕ) → length s ≤ i → Ends s i rest → ⊥
ends_past s i rest past ends = no_end ends.0 rest ends.1 (sym (drop_all i s past) ∙ ends.2)

-- what stands before the place i, and the end of a string, are the end of a string
abbrev pub Begun : List ℕ → ℕ → Type 0
Begun s i = (t : List ℕ) → IsStringEnd t → IsStringEnd (take i s ++ t)

module _ (s : List ℕ) (i : ℕ) (within : i < length s) (begun : Begun s i) where
  one_more : (t : List ℕ) → take (i + 1) s ++ t ≡ take i s ++ get_or s i 0 ∷ t
  one_more t = ap (λ x. x ++ t) (take_more s i 0 within) ∙ append_assoc (take i s) (get_or s i 0 ∷ []) t

  pub begun_end : get_or s i 0 ≡ 34 → IsStringEnd (take (i + 1) s)
  begun_end is = subst IsStringEnd (ap (λ b. take i s ++ b ∷ []) (sym is) ∙ sym (take_more s i 0 within)) (begun (34 ∷ []) closed)

  pub begun_byte : get_or s i 0 ≢ 34 → get_or s i 0 ≢ 92 → Begun s (i + 1)
  begun_byte q n t h = subst IsStringEnd (sym (one_more t)) (begun (get_or s i 0 ∷ t) (byte q n h))

  pub begun_pair : get_or s i 0 ≡ 92 → i + 1 < length s → Begun s (i + 2)
  begun_pair is more t h =
      let two : take (i + 2) s ++ t ≡ take i s ++ get_or s i 0 ∷ get_or s (i + 1) 0 ∷ t =
      ap (λ n. take n s ++ t) (omega arith) ∙ ap (λ x. x ++ t) (take_more s (i + 1) 0 more) ∙ append_assoc (take (i + 1) s) (get_or s (i + 1) 0 ∷ []) t ∙ one_more (get_or s (i + 1) 0 ∷ t) in
      subst IsStringEnd (sym (two ∙ ap (λ b. take i s ++ b ∷ get_or s (i + 1) 0 ∷ t) is)) (begun (92 ∷ get_or s (i + 1) 0 ∷ t) (pair h))
