-- Which texts are debug identifiers, and what they are read as.
use Rattle.std.proofs.Common.{◌≡◌, ◌≢◌, ◌⊎◌, inl, inr, ℕ, zero, suc, ◌+◌, ◌*◌, ◌/◌, ◌%◌, ◌^◌, ◌<◌, ◌≤◌, ◌&&◌, ◌==◌, true, false, cond, nat_le, List, [], ◌∷◌, ◌++◌, length, take, drop, get_or, slice_index, Option, Some, None, option_and_then, option_map, Result, Ok, Err, refl, sym, ap, subst, ◌∙◌, ◌↔◌, arith, All, length-take, take-append-drop, add-one}
use Rattle.std.specs.Bool.{Decides}
use Rattle.std.specs.Fmt.{digits, digits_onto, digit_glyph}
use Rattle.std.proofs.lemmas.Grind.{pow_more}
use Rattle.std.specs.List.{list_all}
use Rattle.std.specs.Result.{OkIff, result_ok}
use Rattle.std.specs.Str.{IsCharBoundary}
use Rattle.std.specs.Str.Parse.{IsNumeral, digits_value, without_leading_plus}
use Rattle.std.proofs.lemmas.Bool.{cond-true, cond-false, cases_Bool, cases_lt, cases_eq, and_parts, eqb-true, eq-eqb, ne_eqb, leb-true, le-leb, false_from_ne_true, true≢false}
use Rattle.std.proofs.lemmas.Bool.Decides.{Decides-and}
use Rattle.std.proofs.lemmas.Fmt.{digits_is_IsNumeral}
use Rattle.std.proofs.lemmas.Int.Digits.{digits_value-lt}
use Rattle.std.proofs.lemmas.List.{take_all, drop_more, get_or_append_left}
use Rattle.std.proofs.lemmas.List.Sums.{AllPass-from_list_all}
use Rattle.std.proofs.lemmas.Option.{cond_some, option_and_then_some, some_pair_parts}
use Rattle.std.proofs.lemmas.Str.Parse.{without_leading_plus_none}
use Rattle.std.proofs.Math.Nat.{pow-le-pow_right, pow-zero, div-lt_iff_lt-mul}
use Rattle.std.proofs.Math.Seq.{take-append_seam, drop-append_seam}
use Rattle.uuid.specs.Text.{lower, parsed, parsed_simple, parsed_hyphenated, hyphenated_text, is_hex_digit, has_hyphens}
use Rattle.uuid.proofs.RoundTrips.{parses_hyphenated_text}
use Rattle.sentry_text.specs.Number.{is_numeral}
use Rattle.sentry_identifiers.specs.DebugId.{IsAppendix, IsDebugId, id_size, appendix_of, debug_id_of, appendix_text, debug_id_text}
use Rattle.sentry_text.proofs.NumberTexts.{numeral_tells}

-- ---- the appendix

abbrev pub Fits : List ℕ → Type 0
Fits rest = IsNumeral 16 rest × (length rest ≤ 8)

fits_tells : (rest : List ℕ) → Decides (is_numeral 16 rest && nat_le (length rest) 8) (Fits rest)
fits_tells rest = Decides-and _ _ (numeral_tells 16 rest) (leb-true (length rest) 8, le-leb (length rest) 8)

pub no_tail : (text : List ℕ) → length text ≡ 0 → Some 0 ≡ appendix_of text
unfolding appendix_of
no_tail [] e = refl
no_tail (c ∷ rest) e = absurd (omega (arith, e))

after_hyphen : (text rest : List ℕ) → text ≡ 45 ∷ rest → appendix_of text ≡ cond (is_numeral 16 rest && nat_le (length rest) 8) (Some (digits_value 16 rest)) None
unfolding appendix_of
after_hyphen text rest e = ap appendix_of e

pub no_hyphen : (text : List ℕ) → 0 < length text → ((rest : List ℕ) → text ≡ 45 ∷ rest → ⊥) → None ≡ appendix_of text
unfolding appendix_of
no_hyphen [] some none = absurd (omega (arith, some))
no_hyphen (c ∷ rest) some none =
    let other : (c == 45) ≡ false = ne_eqb c 45 (λ e. none rest (ap (λ (x : ℕ). x ∷ rest) e)) in
    rw other refl

pub digits_read : (text rest : List ℕ) → text ≡ 45 ∷ rest → Fits rest → Some (digits_value 16 rest) ≡ appendix_of text
digits_read text rest e fits = sym (after_hyphen text rest e ∙ cond-true _ _ _ ((fits_tells rest).1 fits))

pub digits_refused : (text rest : List ℕ) → text ≡ 45 ∷ rest → (Fits rest → ⊥) → None ≡ appendix_of text
digits_refused text rest e none = sym (after_hyphen text rest e ∙ cond-false _ _ _ (false_from_ne_true _ (λ t. none ((fits_tells rest).0 t))))

-- eight digits write 32 bits
pub eight_digits : (rest : List ℕ) → Fits rest → digits_value 16 rest < 2 ^ 32
eight_digits rest fits =
    let small = digits_value-lt 16 rest fits.0.1 in
    let most : 16 ^ length rest ≤ 16 ^ 8 = pow-le-pow_right (omega arith) fits.1 in
    omega (arith, small, most)

appendix_parts : (text : List ℕ) (n : ℕ) → appendix_of text ≡ Some n → IsAppendix text n
unfolding appendix_of
appendix_parts [] n e = let same : 0 ≡ n = cc in inl (refl, sym same)
appendix_parts (c ∷ rest) n e =
    let parts = cond_some _ (digits_value 16 rest) n e in
    let both = and_parts (c == 45) (is_numeral 16 rest && nat_le (length rest) 8) parts.0 in
    let fits = (fits_tells rest).0 both.1 in
    inr (rest, ap (λ (x : ℕ). x ∷ rest) (eqb-true c 45 both.0), fits.0, fits.1, sym parts.1)

appendix_is : (text : List ℕ) (n : ℕ) → IsAppendix text n → appendix_of text ≡ Some n
appendix_is text n (inl (none, is)) = sym (no_tail text (ap length none)) ∙ ap (λ (k : ℕ). Some k) (sym is)
appendix_is text n (inr (rest, e, digits, short, is)) = sym (digits_read text rest e (digits, short)) ∙ ap (λ (k : ℕ). Some k) (sym is)

-- ---- the UUID

-- the bytes of the UUID and the appendix, where there are both
abbrev pair_of : Option (List ℕ) → Option ℕ → Option (List ℕ × ℕ)
pair_of o p = option_and_then (λ bytes. option_map (λ n. (bytes, n)) p) o

pair_none : (o : Option (List ℕ)) → None ≡ pair_of o None
pair_none None = refl
pair_none (Some bytes) = refl

no_id : (text : List ℕ) → parsed (take (id_size text) text) ≡ None → None ≡ debug_id_of text
unfolding debug_id_of
no_id text e = ap (λ (o : Option (List ℕ)). pair_of o (appendix_of (drop (id_size text) text))) (sym e)

no_appendix : (text : List ℕ) → None ≡ appendix_of (drop (id_size text) text) → None ≡ debug_id_of text
unfolding debug_id_of
no_appendix text e = pair_none (parsed (take (id_size text) text)) ∙ ap (pair_of (parsed (take (id_size text) text))) e

both_parts : (text bytes : List ℕ) (n : ℕ) → Some bytes ≡ parsed (take (id_size text) text) → Some n ≡ appendix_of (drop (id_size text) text) → Some (bytes, n) ≡ debug_id_of text
unfolding debug_id_of
both_parts text bytes n e f =
    ap (λ (o : Option (List ℕ)). pair_of o (Some n)) e ∙ ap (pair_of (parsed (take (id_size text) text))) f

abbrev pub Parses : List ℕ → Type 0
Parses rest = IsNumeral 16 (without_leading_plus rest) × (digits_value 16 (without_leading_plus rest) < 2 ^ 32)

-- what `parse` answers of digits without a plus
pub number_answered : {E : Type 0} (text rest : List ℕ) (r : Result ℕ E) → text ≡ 45 ∷ rest → length rest ≤ 8 → get_or rest 0 0 ≢ 43
    → OkIff r (Parses rest) (digits_value 16 (without_leading_plus rest)) → result_ok r ≡ appendix_of text
number_answered text rest (Ok n) e short plain h =
    let same = without_leading_plus_none rest plain in
    ap (λ (k : ℕ). Some k) (h.1 ∙ ap (digits_value 16) same) ∙ digits_read text rest e (subst (λ (ds : List ℕ). IsNumeral 16 ds) same h.0.0, short)
number_answered text rest (Err error) e short plain h =
    let same = without_leading_plus_none rest plain in
    digits_refused text rest e (λ fits. h (rw same (fits.0, eight_digits rest fits)))

-- ---- the same of the two parts that a cut gives

cut_at : (text part : List ℕ) (cut : ℕ → List ℕ → List ℕ) (size : ℕ) → size ≡ id_size text → part ≡ cut size text → cut (id_size text) text ≡ part
cut_at text part cut size same e = ap (λ (k : ℕ). cut k text) (sym same) ∙ sym e

pub front_refused : (text id : List ℕ) (size : ℕ) → size ≡ id_size text → id ≡ take size text → parsed id ≡ None → None ≡ debug_id_of text
front_refused text id size same e none = no_id text (ap parsed (cut_at text id take size same e) ∙ none)

pub back_refused : (text tail : List ℕ) (size : ℕ) → size ≡ id_size text → tail ≡ drop size text → None ≡ appendix_of tail → None ≡ debug_id_of text
back_refused text tail size same e none = no_appendix text (none ∙ ap appendix_of (sym (cut_at text tail drop size same e)))

pub parts_read : (text id tail bytes : List ℕ) (n size : ℕ) → size ≡ id_size text → id ≡ take size text → tail ≡ drop size text → Some bytes ≡ parsed id → Some n ≡ appendix_of tail → Some (bytes, n) ≡ debug_id_of text
parts_read text id tail bytes n size same e f front back =
    both_parts text bytes n (front ∙ ap parsed (sym (cut_at text id take size same e))) (back ∙ ap appendix_of (sym (cut_at text tail drop size same f)))

-- ---- where a text is cut

unwhole : (text : List ℕ) (size : ℕ) → size ≤ length text → (IsCharBoundary text size → ⊥) → (c : ℕ) × (rest : List ℕ) × (drop size text ≡ c ∷ rest) × (128 ≤ c)
unwhole text size fits none =
    elim (cases_lt size (length text)) [
      | inr whole ↦ absurd (none (fits, λ lt. absurd (omega (arith, lt, whole))))
      | inl within ↦
          elim (cases_lt (slice_index text size) 128) [
            | inl low ↦ absurd (none (fits, λ lt high. absurd (omega (arith, low, high))))
            | inr high ↦ (slice_index text size, drop (size + 1) text, drop_more text size 0 within, high)
          ]
    ]

-- no digit stands where a hyphen does
no_digit : (id : List ℕ) → length id ≡ 32 → slice_index id 8 ≡ 45 → list_all is_hex_digit id ≡ true → ⊥
no_digit id size hyphen all =
    let digit : is_hex_digit (slice_index id 8) ≡ true = AllPass-from_list_all is_hex_digit id all 8 0 (omega (arith, size)) in
    let none : is_hex_digit 45 ≡ true = subst (λ (c : ℕ). is_hex_digit c ≡ true) hyphen digit in
    true≢false (sym none)

-- a text of no form's length
parsed_other : (s : List ℕ) → length s ≢ 32 → length s ≢ 36 → length s ≢ 38 → length s ≢ 45 → parsed s ≡ None
parsed_other s a b c d =
    rw (ne_eqb (length s) 32 a, ne_eqb (length s) 36 b, ne_eqb (length s) 38 c, ne_eqb (length s) 45 d) refl

simple_parts : (s bytes : List ℕ) → parsed_simple s ≡ Some bytes → (length s ≡ 32) × (list_all is_hex_digit s ≡ true)
simple_parts s bytes e =
    let both = and_parts (length s == 32) (list_all is_hex_digit s) (cond_some _ _ bytes e).0 in
    (eqb-true (length s) 32 both.0, both.1)

hyphenated_parts : (s bytes : List ℕ) → parsed_hyphenated s ≡ Some bytes → (length s ≡ 36) × (slice_index s 8 ≡ 45)
hyphenated_parts s bytes e =
    elim (cases_Bool ((length s == 36) && has_hyphens s)) [
      | inl t ↦
          let both = and_parts (length s == 36) (has_hyphens s) t in
          let three = (and_parts _ _ both.1).0 in
          let two = (and_parts _ _ three).0 in
          let one = (and_parts _ _ two).0 in
          (eqb-true (length s) 36 both.0, eqb-true (slice_index s 8) 45 one)
      | inr f ↦ let none : None ≡ parsed_hyphenated s = sym (cond-false _ _ _ f) in absurd cc
    ]

parsed_at_32 : (s : List ℕ) → length s ≡ 32 → parsed s ≡ parsed_simple s
parsed_at_32 s len = rw len refl

parsed_at_36 : (s : List ℕ) → length s ≡ 36 → parsed s ≡ parsed_hyphenated s
parsed_at_36 s len = rw len refl

size_with : (text : List ℕ) → slice_index text 8 ≡ 45 → id_size text ≡ 36
size_with text e = cond-true (slice_index text 8 == 45) 36 32 (eq-eqb _ 45 e)

size_without : (text : List ℕ) → slice_index text 8 ≢ 45 → id_size text ≡ 32
size_without text e = cond-false (slice_index text 8 == 45) 36 32 (ne_eqb _ 45 e)

-- a text with a hyphen at its ninth place is no 32 digits
hyphen_none : (text : List ℕ) → slice_index text 8 ≡ 45 → length text ≡ 32 → parsed text ≡ None
hyphen_none text hyphen size =
    parsed_at_32 text size ∙ cond-false _ _ _ (false_from_ne_true _ (λ t. no_digit text size hyphen (and_parts (length text == 32) _ t).1))

too_short : (text : List ℕ) → length text < id_size text → parsed text ≡ None
too_short text short =
    elim (cases_eq (slice_index text 8) 45) [
      | inl hyphen ↦
          elim (cases_eq (length text) 32) [
            | inl size ↦ hyphen_none text hyphen size
            | inr other ↦ parsed_other text other (λ e. omega (arith, e, short, size_with text hyphen)) (λ e. omega (arith, e, short, size_with text hyphen)) (λ e. omega (arith, e, short, size_with text hyphen))
          ]
      | inr none ↦
          parsed_other text (λ e. omega (arith, e, short, size_without text none)) (λ e. omega (arith, e, short, size_without text none)) (λ e. omega (arith, e, short, size_without text none)) (λ e. omega (arith, e, short, size_without text none))
    ]

pub no_cut : (text : List ℕ) → (IsCharBoundary text (id_size text) → ⊥) → None ≡ debug_id_of text
no_cut text none =
    elim (cases_lt (length text) (id_size text)) [
      | inl short ↦ no_id text (ap parsed (take_all (id_size text) text (omega (arith, short))) ∙ too_short text short)
      | inr long ↦
          let tail = unwhole text (id_size text) long none in
          no_appendix text (no_hyphen (drop (id_size text) text) (omega (arith, ap length tail.2)) (λ rest e. omega (arith, tail.3, ap (λ (t : List ℕ). slice_index t 0) (sym tail.2 ∙ e))))
    ]

pub not_parsed : (o : Option (List ℕ)) → (((u : List ℕ) × (o ≡ Some u)) → ⊥) → o ≡ None
not_parsed None h = refl
not_parsed (Some u) h = absurd (h (u, refl))

-- ---- which texts are debug identifiers

abbrev with_bytes : List ℕ → ℕ → List ℕ × ℕ
with_bytes u k = (u, k)

map_pair : (bytes u : List ℕ) (n : ℕ) (p : Option ℕ) → option_map (with_bytes u) p ≡ Some (bytes, n) → (u ≡ bytes) × (p ≡ Some n)
map_pair bytes u n None e = absurd cc
map_pair bytes u n (Some k) e = let same = some_pair_parts u bytes k n e in (same.0, ap (λ (j : ℕ). Some j) same.1)

parsed_kind : (s bytes : List ℕ) → length s ≤ 36 → parsed s ≡ Some bytes → (parsed_simple s ≡ Some bytes) ⊎ (parsed_hyphenated s ≡ Some bytes)
parsed_kind s bytes short e =
    elim (cases_eq (length s) 32) [
      | inl simple ↦ inl (sym (parsed_at_32 s simple) ∙ e)
      | inr other ↦
          elim (cases_eq (length s) 36) [
            | inl long ↦ inr (sym (parsed_at_36 s long) ∙ e)
            | inr neither ↦ let none = parsed_other s other neither (λ f. omega (arith, f, short)) (λ f. omega (arith, f, short)) in absurd cc
          ]
    ]

size_most : (text : List ℕ) → id_size text ≤ 36
size_most text =
    elim (cases_eq (slice_index text 8) 45) [
      | inl e ↦ omega (arith, size_with text e)
      | inr e ↦ omega (arith, size_without text e)
    ]

debug_id_parts : (text bytes : List ℕ) (n : ℕ) → debug_id_of text ≡ Some (bytes, n) → IsDebugId text bytes n
unfolding debug_id_of
debug_id_parts text bytes n e =
    option_and_then_some _ (parsed (take (id_size text) text)) (bytes, n) e
    (λ u is rest.
    let same = map_pair bytes u n (appendix_of (drop (id_size text) text)) rest in
    record {
      id = take (id_size text) text;
      tail = drop (id_size text) text;
      whole = sym (take-append-drop (id_size text) text);
      is_id = parsed_kind (take (id_size text) text) bytes (omega (arith, length-take (id_size text) text, size_most text)) (is ∙ ap (λ (b : List ℕ). Some b) same.0);
      is_tail = appendix_parts (drop (id_size text) text) n same.1;
    })

cut_read : (text id tail bytes : List ℕ) (n size : ℕ) → text ≡ id ++ tail → length id ≡ size → id_size text ≡ size → parsed id ≡ Some bytes → IsAppendix tail n → debug_id_of text ≡ Some (bytes, n)
cut_read text id tail bytes n size whole long is reads is_tail =
    let cut : take (id_size text) text ≡ id = ap (λ (k : ℕ). take k text) (is ∙ sym long) ∙ (ap (take (length id)) whole ∙ take-append_seam id tail) in
    let rest : drop (id_size text) text ≡ tail = ap (λ (k : ℕ). drop k text) (is ∙ sym long) ∙ (ap (drop (length id)) whole ∙ drop-append_seam id tail) in
    sym (both_parts text bytes n (sym (ap parsed cut ∙ reads)) (sym (ap appendix_of rest ∙ appendix_is tail n is_tail)))

ninth : (text id tail : List ℕ) → text ≡ id ++ tail → 8 < length id → slice_index text 8 ≡ slice_index id 8
ninth text id tail whole long = ap (λ (t : List ℕ). slice_index t 8) whole ∙ get_or_append_left id tail 0 8 long

debug_id_is : (text bytes : List ℕ) (n : ℕ) (h : IsDebugId text bytes n) → (parsed_simple h.id ≡ Some bytes) ⊎ (parsed_hyphenated h.id ≡ Some bytes) → debug_id_of text ≡ Some (bytes, n)
debug_id_is text bytes n h (inl e) =
    let parts = simple_parts h.id bytes e in
    cut_read text h.id h.tail bytes n 32 h.whole parts.0
    (size_without text (λ f. no_digit h.id parts.0 (sym (ninth text h.id h.tail h.whole (omega (arith, parts.0))) ∙ f) parts.1))
    (parsed_at_32 h.id parts.0 ∙ e) h.is_tail
debug_id_is text bytes n h (inr e) =
    let parts = hyphenated_parts h.id bytes e in
    cut_read text h.id h.tail bytes n 36 h.whole parts.0
    (size_with text (ninth text h.id h.tail h.whole (omega (arith, parts.0)) ∙ parts.1))
    (parsed_at_36 h.id parts.0 ∙ e) h.is_tail

pub debug_id_of_iff : (text bytes : List ℕ) (n : ℕ) → debug_id_of text ≡ Some (bytes, n) ↔ IsDebugId text bytes n
debug_id_of_iff text bytes n = (debug_id_parts text bytes n, λ h. debug_id_is text bytes n h h.is_id)

-- ---- written texts

-- a number below a power of the base has no more digits than the power
short_digits : (k base n : ℕ) (acc : List ℕ) (j : ℕ) → 2 ≤ base → 0 < j → n < base ^ j → length (digits_onto k base false n acc) ≤ j + length acc
short_digits zero base n acc j low some fits = omega arith
short_digits (suc k) base n acc zero low some fits = absurd (omega (arith, some))
short_digits (suc k) base n acc (suc j) low some fits =
    elim (cases_eq (n / base) 0) [
      | inl last ↦ rw (eq-eqb (n / base) 0 last) (omega arith)
      | inr more ↦
          let step : base ^ suc j ≡ base ^ j * base = ap (λ (i : ℕ). base ^ i) (sym (add-one j)) ∙ pow_more base j in
          let front : n / base < base ^ j = (div-lt_iff_lt-mul {k = base} {x = n} {y = base ^ j} (omega (arith, low))).1 (omega (arith, fits, step)) in
          let left : 0 < j = positive j front more in
          let rest = short_digits k base (n / base) (digit_glyph false (n % base) ∷ acc) j low left front in
          rw (ne_eqb (n / base) 0 more) (omega (arith, rest))
    ]
  where
    positive : (i : ℕ) → n / base < base ^ i → (n / base ≡ 0 → ⊥) → 0 < i
    positive zero below none = absurd (none (omega (arith, below, pow-zero base)))
    positive (suc i) below none = omega arith

eight_are_enough : (n : ℕ) → n < 2 ^ 32 → length (digits 16 false n) ≤ 8
unfolding digits
eight_are_enough n small = short_digits 64 16 n [] 8 (omega arith) (omega arith) (omega arith)

written_appendix : (n : ℕ) → n < 2 ^ 32 → IsAppendix (appendix_text n) n
written_appendix n small =
    elim (cases_eq n 0) [
      | inl none ↦ inl (cond-true (n == 0) [] _ (eq-eqb n 0 none), none)
      | inr some ↦
          let is = digits_is_IsNumeral 16 false (omega arith) (omega arith) n (omega arith) in
          inr (digits 16 false n, cond-false (n == 0) [] _ (ne_eqb n 0 some), is.0, eight_are_enough n small, sym is.1)
    ]

pub written_debug_id : (bytes : List ℕ) (n : ℕ) → length bytes ≡ 16 → All (λ b. b < 256) bytes → n < 2 ^ 32 → debug_id_of (debug_id_text bytes n) ≡ Some (bytes, n)
written_debug_id bytes n size fits small =
    (debug_id_of_iff (debug_id_text bytes n) bytes n).1 (record {
      id = hyphenated_text lower bytes;
      tail = appendix_text n;
      whole = refl;
      is_id = inr (sym (parses_hyphenated_text lower bytes (inl refl) size fits));
      is_tail = written_appendix n small;
    })
