-- The compact text of JSON: an object's is a balanced piece, and none holds NL.
use Rattle.std.proofs.Common.{◌≡◌, ◌≢◌, ℕ, zero, suc, ◌<◌, ◌/◌, ◌%◌, ◌==◌, ◌&&◌, not, eqb, Bool, true, false, if◌then◌else◌, true≢false, inl, inr, pos, negsuc, List, [], ◌∷◌, ◌++◌, decimal, refl, sym, ◌∙◌, ap, subst, append_assoc, append-nil, eq-eqb, ne_eqb, nat_lt, lt-ltb, ◌+◌, arith}
use Rattle.std.proofs.lemmas.Bool.{cases_eq, cases_lt, cases_Bool, and_parts}
use Rattle.std.proofs.lemmas.List.Elements.{All-nil, All-cons, All-append}
use Rattle.std.specs.Fmt.{digits, digits_onto}
use Rattle.json.specs.Token as token
use Rattle.json.specs.Print.{escape_byte, escape, quoted, token_text}
use Rattle.json.proofs.Printed.Strings.{escape_byte_plain}
use Rattle.serde_json.specs.Data.{Num, unsigned, negative, float, Data, null, boolean, number, string, array, object, Items, no_items, item, Members, no_members, member}
use Rattle.serde_json.specs.Written.{number_text, comma_if, compact_text, items_text, members_text}
use Rattle.sentry_json.specs.Balanced.{IsStringEnd, closed, byte, pair, IsBalanced, braces, IsInside, nothing, plain, string as string_inside, piece}
use Rattle.sentry_json.specs.Line.{newline, HasNoNewline}

abbrev NoNewline : ℕ → Type 0
NoNewline b = b ≢ newline

-- a text that may stand inside a piece, and holds no NL
pub record GoesInside (text : List ℕ) : Type 0 where
  pub inside : (s : List ℕ) → IsInside s → IsInside (text ++ s)
  pub clean : HasNoNewline text

nil_goes : GoesInside []
nil_goes = record { inside = λ s h. h; clean = All-nil NoNewline }

both_go : (x y : List ℕ) → GoesInside x → GoesInside y → GoesInside (x ++ y)
both_go x y g h = record {
  inside = λ s i. subst IsInside (sym (append_assoc x y s)) (g.inside (y ++ s) (h.inside s i));
  clean = All-append NoNewline x y g.clean h.clean;
}

byte_goes : (b : ℕ) (x : List ℕ) → b ≢ 34 → b ≢ 123 → b ≢ 125 → b ≢ 10 → GoesInside x → GoesInside (b ∷ x)
byte_goes b x q o c n h = record {
  inside = λ s i. plain q o c (h.inside s i);
  clean = All-cons NoNewline b x n h.clean;
}

-- ---- strings

-- whether bytes go on in a string, each backslash with the byte after it, and hold no NL
abbrev mutual
  goes_on : List ℕ → Bool
  goes_on [] = true
  goes_on (b ∷ s) = if b == 92 then escaped s else (not (b == 34) && (not (b == 10) && goes_on s))

  escaped : List ℕ → Bool
  escaped [] = false
  escaped (b ∷ s) = not (b == 10) && goes_on s

not_eq : (a b : ℕ) → not (a == b) ≡ true → a ≢ b
not_eq a b h e = true≢false (sym h ∙ ap not (eq-eqb a b e))

mutual
  goes_on_string : (x : List ℕ) → goes_on x ≡ true → (t : List ℕ) → IsStringEnd t → IsStringEnd (x ++ t)
  goes_on_string [] h t e = e
  goes_on_string (b ∷ x) h t e = elim (cases_eq b 92) [
    | inl is ↦ let g : goes_on (92 ∷ x) ≡ true = subst (λ c. goes_on (c ∷ x) ≡ true) is h in subst (λ c. IsStringEnd (c ∷ (x ++ t))) (sym is) (escaped_string x g t e)
    | inr ne ↦
        let no : eqb b 92 ≡ false = ne_eqb b 92 ne in
        let g : not (b == 34) && (not (b == 10) && goes_on x) ≡ true = rw no at h in
        let p = and_parts (not (b == 34)) (not (b == 10) && goes_on x) g in
        let q = and_parts (not (b == 10)) (goes_on x) p.1 in
        byte (not_eq b 34 p.0) ne (goes_on_string x q.1 t e)
  ]

  escaped_string : (x : List ℕ) → escaped x ≡ true → (t : List ℕ) → IsStringEnd t → IsStringEnd (92 ∷ (x ++ t))
  escaped_string [] h t e = absurd (true≢false (sym h))
  escaped_string (b ∷ x) h t e = pair (goes_on_string x (and_parts (not (b == 10)) (goes_on x) h).1 t e)

mutual
  goes_on_clean : (x : List ℕ) → goes_on x ≡ true → HasNoNewline x
  goes_on_clean [] h = All-nil NoNewline
  goes_on_clean (b ∷ x) h = elim (cases_eq b 92) [
    | inl is ↦
        let g : goes_on (92 ∷ x) ≡ true = subst (λ c. goes_on (c ∷ x) ≡ true) is h in
        All-cons NoNewline b x (λ e. omega arith) (escaped_clean x g)
    | inr ne ↦
        let no : eqb b 92 ≡ false = ne_eqb b 92 ne in
        let g : not (b == 34) && (not (b == 10) && goes_on x) ≡ true = rw no at h in
        let p = and_parts (not (b == 34)) (not (b == 10) && goes_on x) g in
        let q = and_parts (not (b == 10)) (goes_on x) p.1 in
        All-cons NoNewline b x (not_eq b 10 q.0) (goes_on_clean x q.1)
  ]

  escaped_clean : (x : List ℕ) → escaped x ≡ true → HasNoNewline x
  escaped_clean [] h = absurd (true≢false (sym h))
  escaped_clean (b ∷ x) h =
      let p = and_parts (not (b == 10)) (goes_on x) h in
      All-cons NoNewline b x (not_eq b 10 p.0) (goes_on_clean x p.1)

-- the escapes of the bytes below n go on in a string
abbrev escapes_below : ℕ → Bool
escapes_below zero = true
escapes_below (suc n) = goes_on (escape_byte n) && escapes_below n

escape_below : (n : ℕ) → escapes_below n ≡ true → (x : ℕ) → x < n → goes_on (escape_byte x) ≡ true
escape_below zero e x h = absurd (omega arith)
escape_below (suc n) e x h =
    let p = and_parts (goes_on (escape_byte n)) (escapes_below n) e in
    elim (cases_eq x n) [ inl same ↦ rw same p.0 | inr other ↦ escape_below n p.1 x (omega arith) ]

low_escapes : escapes_below 93 ≡ true
unfolding escape_byte
low_escapes = refl

plain_goes_on : (x : ℕ) → x ≢ 92 → x ≢ 34 → x ≢ 10 → goes_on (x ∷ []) ≡ true
plain_goes_on x b q n = rw (ne_eqb x 92 b, ne_eqb x 34 q, ne_eqb x 10 n)

escape_goes_on : (x : ℕ) → goes_on (escape_byte x) ≡ true
escape_goes_on x = elim (cases_lt x 93) [
  | inl h ↦ escape_below 93 low_escapes x h
  | inr h ↦ ap goes_on (escape_byte_plain x (λ e. omega arith) (λ e. omega arith) (omega arith)) ∙ plain_goes_on x (λ e. omega arith) (λ e. omega arith) (λ e. omega arith)
]

escape_string : (s t : List ℕ) → IsStringEnd t → IsStringEnd (escape s ++ t)
escape_string [] t e = e
escape_string (x ∷ s) t e =
    subst IsStringEnd (sym (append_assoc (escape_byte x) (escape s) t)) (goes_on_string (escape_byte x) (escape_goes_on x) (escape s ++ t) (escape_string s t e))

escape_clean : (s : List ℕ) → HasNoNewline (escape s)
escape_clean [] = All-nil NoNewline
escape_clean (x ∷ s) = All-append NoNewline (escape_byte x) (escape s) (goes_on_clean (escape_byte x) (escape_goes_on x)) (escape_clean s)

quoted_goes : (s : List ℕ) → GoesInside (quoted s)
quoted_goes s = record {
  inside = λ t i. string_inside (escape_string s (34 ∷ []) closed) i;
  clean = All-cons NoNewline 34 (escape s ++ 34 ∷ []) (λ e. omega arith) (All-append NoNewline (escape s) (34 ∷ []) (escape_clean s) (All-cons NoNewline 34 [] (λ e. omega arith) (All-nil NoNewline)));
}

-- ---- numbers and words

digits_go : (k n : ℕ) (acc : List ℕ) → GoesInside acc → GoesInside (digits_onto k 10 false n acc)
digits_go zero n acc h = h
digits_go (suc k) n acc h =
    let small : n % 10 < 10 = omega arith in
    let glyph : (m : ℕ) → m < 10 → GoesInside ((if nat_lt m 10 then 48 + m else (87 + m)) ∷ acc) =
    λ m less. let low : nat_lt m 10 ≡ true = lt-ltb m 10 less in rw low (byte_goes (48 + m) acc (λ e. omega arith) (λ e. omega arith) (λ e. omega arith) (λ e. omega arith) h) in
    elim (cases_Bool (n / 10 == 0)) [
      | inl e ↦ rw e (glyph (n % 10) small)
      | inr e ↦ rw e (digits_go k (n / 10) _ (glyph (n % 10) small))
    ]

decimal_goes : (n : ℕ) → GoesInside (decimal n)
unfolding digits
decimal_goes n = digits_go 64 n [] nil_goes

number_goes : (n : Num) → GoesInside (number_text n)
number_goes (unsigned n) = decimal_goes n
number_goes (negative (pos n)) = decimal_goes n
number_goes (negative (negsuc n)) = byte_goes 45 (decimal (suc n)) (λ e. omega arith) (λ e. omega arith) (λ e. omega arith) (λ e. omega arith) (decimal_goes (suc n))
number_goes (float x) = nil_goes

-- whether bytes are plain, and none is NL
abbrev are_plain : List ℕ → Bool
are_plain [] = true
are_plain (b ∷ s) = not (b == 34) && (not (b == 123) && (not (b == 125) && (not (b == 10) && are_plain s)))

plain_goes : (x : List ℕ) → are_plain x ≡ true → GoesInside x
plain_goes [] h = nil_goes
plain_goes (b ∷ x) h =
    let p = and_parts (not (b == 34)) (not (b == 123) && (not (b == 125) && (not (b == 10) && are_plain x))) h in
    let q = and_parts (not (b == 123)) (not (b == 125) && (not (b == 10) && are_plain x)) p.1 in
    let r = and_parts (not (b == 125)) (not (b == 10) && are_plain x) q.1 in
    let s = and_parts (not (b == 10)) (are_plain x) r.1 in
    byte_goes b x (not_eq b 34 p.0) (not_eq b 123 q.0) (not_eq b 125 r.0) (not_eq b 10 s.0) (plain_goes x s.1)

comma_goes : (later : Bool) → GoesInside (comma_if later)
comma_goes true = plain_goes (44 ∷ []) refl
comma_goes false = nil_goes

-- ---- values

-- an object's members, up to its closing brace
abbrev Closed : List ℕ → Type 0
Closed text = (m : List ℕ) × GoesInside m × (text ≡ m ++ 125 ∷ [])

closed_after : (x text : List ℕ) → GoesInside x → Closed text → Closed (x ++ text)
closed_after x text g (m, h, e) = (x ++ m, both_go x m g h, ap (λ y. x ++ y) e ∙ sym (append_assoc x m (125 ∷ [])))

object_balanced : (text : List ℕ) → Closed text → IsBalanced (123 ∷ text)
object_balanced text (m, h, e) =
    let inside : IsInside m = subst IsInside (append-nil m) (h.inside [] nothing) in
    subst (λ y. IsBalanced (123 ∷ y)) (sym e) (braces inside)

object_goes : (text : List ℕ) → Closed text → GoesInside (123 ∷ text)
object_goes text (m, h, e) = record {
  inside = λ s i. piece (object_balanced text (m, h, e)) i;
  clean = All-cons NoNewline 123 text (λ q. omega arith) (subst HasNoNewline (sym e) (All-append NoNewline m (125 ∷ []) h.clean (All-cons NoNewline 125 [] (λ q. omega arith) (All-nil NoNewline))));
}

mutual
  value_goes : (d : Data) → GoesInside (compact_text d)
  value_goes null = plain_goes (token_text token.null) refl
  value_goes (boolean true) = plain_goes (token_text (token.boolean true)) refl
  value_goes (boolean false) = plain_goes (token_text (token.boolean false)) refl
  value_goes (number n) = number_goes n
  value_goes (string s) = quoted_goes s
  value_goes (array ds) = both_go (91 ∷ []) (items_text false ds) (plain_goes (91 ∷ []) refl) (items_go false ds)
  value_goes (object ms) = object_goes (members_text false ms) (members_close false ms)

  items_go : (later : Bool) (ds : Items) → GoesInside (items_text later ds)
  items_go later no_items = plain_goes (93 ∷ []) refl
  items_go later (item d ds) =
      both_go (comma_if later) (compact_text d ++ items_text true ds) (comma_goes later) (both_go (compact_text d) (items_text true ds) (value_goes d) (items_go true ds))

  members_close : (later : Bool) (ms : Members) → Closed (members_text later ms)
  members_close later no_members = ([], nil_goes, refl)
  members_close later (member k d ms) =
      closed_after (comma_if later) (quoted k ++ 58 ∷ (compact_text d ++ members_text true ms)) (comma_goes later)
      (closed_after (quoted k) (58 ∷ (compact_text d ++ members_text true ms)) (quoted_goes k)
      (closed_after (58 ∷ []) (compact_text d ++ members_text true ms) (plain_goes (58 ∷ []) refl)
      (closed_after (compact_text d) (members_text true ms) (value_goes d) (members_close true ms))))

pub compact_object : (ms : Members) → IsBalanced (compact_text (object ms))
compact_object ms = object_balanced (members_text false ms) (members_close false ms)

pub compact_clean : (d : Data) → HasNoNewline (compact_text d)
compact_clean d = (value_goes d).clean
