-- Units: the table by its parts, and what their spelling owes.
use Rattle.std.specs.declared.alloc.Global.{Global}
use Rattle.std.proofs.Common.{◌≡◌, ℕ, zero, suc, Bool, true, false, ◌||◌, ◌&&◌, nat_eq, slice_get, cond, List, [], ◌∷◌, ◌++◌, Option, Some, None, unwrap_or, bytes_eq, codes, refl, sym, ap, subst, ◌∙◌, option_map, IsUtf8}
use Rattle.std.specs.Prelude.{⊤}
use Rattle.std.proofs.lemmas.Option.{same_Some}
use Rattle.std.proofs.lemmas.Bool.{and_parts, or_parts, eqb-true, eq-eqb, ne_eqb, true≢false}
use Rattle.std.specs.List.{list_any, list_all, AllByRecursion, IsDistinct}
use Rattle.sentry_tables.specs.Cell.{Cell, text, choice}
use Rattle.sentry_tables.specs.Lawful.{is_ascii}
use Rattle.sentry_tables.specs.Norm.{norm}
use Rattle.sentry_tables.specs.Laws.{HasLaws}
use Rattle.sentry_tables.proofs.Sound.{ascii_text}
use Rattle.sentry_tables.specs.Spelling.{SpellingLaws, spelled_kind}
use Rattle.sentry_tables.specs.Made.{made}
use Rattle.sentry_tables.specs.declared.way.Way.{Way}
use Rattle.sentry_tables.specs.declared.way.Way.TheVariants.{Normal}
use Rattle.sentry_tables.proofs.Ways.{made_normal}
use Rattle.sentry_tables.proofs.Spellings.{ReadLaws, read_to_laws, spelled_has_laws}
use Rattle.sentry_words.specs.Units.{Row, times, sizes, binary_sizes, shares, units, spellings, known, other, unit_cell, found, unit_of, unit_text, IsUnit, unit_norm, unit_spelling, unit_kind}
use Rattle.sentry_words.specs.declared.unit.Unit.{Unit}
use Rattle.sentry_words.specs.declared.unit.Unit.TheVariants

-- ---- one table after another

still_found : (b : Bool) (name : List ℕ) (o p : Option Cell) (c : Cell) → (o ≡ Some c → p ≡ Some c) → cond b (Some (known name)) o ≡ Some c → cond b (Some (known name)) p ≡ Some c
still_found true name o p c h e = e
still_found false name o p c h e = h e

pub found-append_some : (rows more : List Row) (word : List ℕ) (c : Cell) → found rows word ≡ Some c → found (rows ++ more) word ≡ Some c
found-append_some [] more word c e = absurd cc
found-append_some (row ∷ rows) more word c e =
    still_found (list_any (bytes_eq word) row.1) row.0 (found rows word) (found (rows ++ more) word) c (found-append_some rows more word c) e

found_after : (b : Bool) (name : List ℕ) (o p q : Option Cell) → (o ≡ None → p ≡ q) → cond b (Some (known name)) o ≡ None → cond b (Some (known name)) p ≡ q
found_after true name o p q h e = absurd cc
found_after false name o p q h e = h e

pub found-append_none : (rows more : List Row) (word : List ℕ) → found rows word ≡ None → found (rows ++ more) word ≡ found more word
found-append_none [] more word e = refl
found-append_none (row ∷ rows) more word e =
    found_after (list_any (bytes_eq word) row.1) row.0 (found rows word) (found (rows ++ more) word) (found more word) (found-append_none rows more word) e

-- ---- texts by their first byte

-- the byte is one of these
abbrev pub Among : List ℕ → ℕ → Type 0
Among [] x = ⊥
Among (b ∷ bs) x = (x ≡ b → ⊥) → Among bs x

-- the byte is none of these
abbrev pub Outside : List ℕ → ℕ → Type 0
Outside [] x = ⊤
Outside (b ∷ bs) x = (x ≡ b → ⊥) × Outside bs x

-- the rows tell of texts with such a first byte what all tell
abbrev pub AreAlike : List Row → List ℕ → List ℕ → Type 0
AreAlike rows [] rest = ⊤
AreAlike rows (b ∷ bs) rest = (found rows (b ∷ rest) ≡ found units (b ∷ rest)) × AreAlike rows bs rest

one_of : (rows : List Row) (x b : ℕ) (rest : List ℕ) (t : Bool) → nat_eq x b ≡ t → found rows (b ∷ rest) ≡ found units (b ∷ rest) → ((x ≡ b → ⊥) → found rows (x ∷ rest) ≡ found units (x ∷ rest)) → found rows (x ∷ rest) ≡ found units (x ∷ rest)
one_of rows x b rest true is h more = subst (λ n. found rows (n ∷ rest) ≡ found units (n ∷ rest)) (sym (eqb-true x b is)) h
one_of rows x b rest false not h more = more (λ same. true≢false (sym (eq-eqb x b same) ∙ not))

alike_after : (rows : List Row) (x : ℕ) (rest bs : List ℕ) → Among bs x → AreAlike rows bs rest → found rows (x ∷ rest) ≡ found units (x ∷ rest)
alike_after rows x rest [] among h = absurd among
alike_after rows x rest (b ∷ bs) among h = one_of rows x b rest (nat_eq x b) refl h.0 (λ not. alike_after rows x rest bs (among not) h.1)

pub alike : (rows : List Row) (bs : List ℕ) (x : ℕ) (bytes word : List ℕ) → Among bs x → ((rest : List ℕ) → AreAlike rows bs rest) → Some x ≡ slice_get bytes 0 → bytes ≡ word → found rows word ≡ found units word
alike rows bs x [] word among h first is = absurd cc
alike rows bs x (z ∷ rest) word among h first is =
    subst (λ s. found rows s ≡ found units s) is (subst (λ n. found rows (n ∷ rest) ≡ found units (n ∷ rest)) (same_Some x z first) (alike_after rows x rest bs among (h rest)))

abbrev begins : List ℕ → List ℕ → Bool
begins bs [] = true
begins bs (y ∷ ys) = list_any (nat_eq y) bs

differs : (x y b : ℕ) (t c : Bool) → nat_eq y b ≡ t → (x ≡ b → ⊥) → (t || c) ≡ true → (c ≡ true → nat_eq x y ≡ false) → nat_eq x y ≡ false
differs x y b true c is out e h = ne_eqb x y (λ same. out (same ∙ eqb-true y b is))
differs x y b false c is out e h = h e

unlike : (bs : List ℕ) (x y : ℕ) → Outside bs x → list_any (nat_eq y) bs ≡ true → nat_eq x y ≡ false
unlike [] x y out e = absurd cc
unlike (b ∷ bs) x y out e = differs x y b (nat_eq y b) (list_any (nat_eq y) bs) refl out.0 e (unlike bs x y out.1)

no_word : (bs : List ℕ) (x : ℕ) (rest : List ℕ) → Outside bs x → (words : List (List ℕ)) → list_all (begins bs) words ≡ true → list_any (bytes_eq (x ∷ rest)) words ≡ false
no_word bs x rest out [] e = refl
no_word bs x rest out ([] ∷ words) e = no_word bs x rest out words e
no_word bs x rest out ((y ∷ ys) ∷ words) e =
    let p = and_parts (list_any (nat_eq y) bs) (list_all (begins bs) words) e in
    ap (λ b. (b && bytes_eq rest ys) || list_any (bytes_eq (x ∷ rest)) words) (unlike bs x y out p.0) ∙ no_word bs x rest out words p.1

no_row : (bs : List ℕ) (x : ℕ) (rest : List ℕ) → Outside bs x → (rows : List Row) → list_all (λ row. list_all (begins bs) row.1) rows ≡ true → found rows (x ∷ rest) ≡ None
no_row bs x rest out [] e = refl
no_row bs x rest out (row ∷ rows) e =
    let p = and_parts (list_all (begins bs) row.1) (list_all (λ row. list_all (begins bs) row.1) rows) e in
    ap (λ b. cond b (Some (known row.0)) (found rows (x ∷ rest))) (no_word bs x rest out row.1 p.0) ∙ no_row bs x rest out rows p.1

-- the bytes that spellings begin with
abbrev pub first_bytes : List ℕ
first_bytes = 206 ∷ 194 ∷ codes "nNwWsSdDhHrRbBkKgGtTeEpP%mM"

pub unknown : (x : ℕ) (bytes word : List ℕ) → Outside first_bytes x → Some x ≡ slice_get bytes 0 → bytes ≡ word → None ≡ found units word
unfolding times sizes binary_sizes shares
unknown x [] word out first is = absurd cc
unknown x (z ∷ rest) word out first is =
    subst (λ s. None ≡ found units s) is (sym (no_row first_bytes z rest (subst (Outside first_bytes) (same_Some x z first) out) units refl))

pub unknown_empty : (bytes word : List ℕ) → None ≡ slice_get bytes 0 → bytes ≡ word → None ≡ found units word
unfolding times sizes binary_sizes shares
unknown_empty [] word e is = ap (found units) is
unknown_empty (x ∷ xs) word e is = absurd cc

-- ---- names

-- each name is the name of the unit that it spells, and is ASCII
abbrev IsName : List ℕ → Type 0
IsName name = (found units name ≡ Some (known name)) × (is_ascii name ≡ true)

abbrev AreNames : List Row → Type 0
AreNames [] = ⊤
AreNames (row ∷ rows) = IsName row.0 × AreNames rows

names : AreNames units
unfolding times sizes binary_sizes shares
names = ((refl, refl), ((refl, refl), ((refl, refl), ((refl, refl), ((refl, refl), ((refl, refl), ((refl, refl), ((refl, refl), ((refl, refl), ((refl, refl), ((refl, refl), ((refl, refl), ((refl, refl), ((refl, refl), ((refl, refl), ((refl, refl), ((refl, refl), ((refl, refl), ((refl, refl), ((refl, refl), ((refl, refl), ((refl, refl), ((refl, refl), ((refl, refl), tt))))))))))))))))))))))))

one_name : (P : Cell → Type 0) → (b : Bool) (name : List ℕ) (o : Option Cell) (c : Cell) → P (known name) → (o ≡ Some c → P c) → cond b (Some (known name)) o ≡ Some c → P c
one_name P true name o c h f e = subst P (same_Some (known name) c e) h
one_name P false name o c h f e = f e

-- what is found is a name
found_name : (P : Cell → Type 0) → ((name : List ℕ) → IsName name → P (known name)) → (rows : List Row) → AreNames rows → (word : List ℕ) (c : Cell) → found rows word ≡ Some c → P c
found_name P f [] all word c e = absurd cc
found_name P f (row ∷ rows) all word c e =
    one_name P (list_any (bytes_eq word) row.1) row.0 (found rows word) c (f row.0 all.0) (found_name P f rows all.1 word c) e

-- a unit is one of the table, or keeps the text
by_cases : (P : Cell → Type 0) → ((name : List ℕ) → IsName name → P (known name)) → (word : List ℕ) → (found units word ≡ None → P (other word)) → P (unit_of word)
by_cases P f word g = decided (found units word) refl
  where
    decided : (o : Option Cell) → found units word ≡ o → P (unwrap_or o (other word))
    decided None e = g e
    decided (Some c) e = found_name P f units names word c e

-- ---- the laws

pub unit_back : (word : List ℕ) → unit_of (unit_text (unit_of word)) ≡ unit_of word
unit_back word =
    by_cases (λ c. unit_of (unit_text c) ≡ c)
    (λ name h. ap (λ o. unwrap_or o (other name)) h.0)
    word
    (λ e. ap (λ o. unwrap_or o (other word)) e)

text_utf8 : (c : Cell) → IsUnit c → IsUtf8 (unit_text c)
text_utf8 (choice zero (text name)) h = found_name (λ c. IsUtf8 (unit_text c)) (λ n p. ascii_text n p.1) units names name (known name) h
text_utf8 (choice (suc zero) (text word)) h = h
text_utf8 _ h = absurd h

unit_read : (c : Cell) → IsUnit c → unit_of (unit_text c) ≡ unit_norm c
unit_read (choice zero (text name)) h = ap (λ o. unwrap_or o (other name)) h
unit_read (choice (suc zero) (text word)) h = refl
unit_read _ h = absurd h

unit_normal : (word : List ℕ) → unit_norm (unit_of word) ≡ unit_of word
unit_normal word = by_cases (λ c. unit_norm c ≡ c) (λ name h. refl) word (λ none. ap (λ o. unwrap_or o (other word)) none)

unit_reads : ReadLaws (λ word. Some (unit_of word)) unit_text unit_norm IsUnit
unit_reads = record {
  reads = λ c p. ap Some (unit_read c p);
  stored = λ word c utf8 e. subst IsUnit (same_Some (unit_of word) c e) (by_cases IsUnit (λ name h. h.0) word (λ none. utf8));
  normal = λ word c e. subst (λ x. unit_norm x ≡ x) (same_Some (unit_of word) c e) (unit_normal word);
  utf8 = text_utf8;
}

pub unit_laws : SpellingLaws unit_spelling
unit_laws = read_to_laws (λ word. Some (unit_of word)) unit_text unit_norm IsUnit unit_reads

pub unit_has_laws : HasLaws unit_kind
unit_has_laws = spelled_has_laws unit_spelling unit_laws

pub symbol_read : norm unit_kind (other (codes "ms")) ≡ known (codes "millisecond")
unfolding times
symbol_read = refl

-- ---- no spelling stands twice

abbrev differ : List (List ℕ) → Bool
differ [] = true
differ (x ∷ xs) = cond (list_any (bytes_eq x) xs) false (differ xs)

none_alike : (x : List ℕ) (xs : List (List ℕ)) → list_any (bytes_eq x) xs ≡ false → AllByRecursion (λ y. bytes_eq x y ≡ false) xs
none_alike x [] e = tt
none_alike x (y ∷ ys) e = let p = or_parts (bytes_eq x y) (list_any (bytes_eq x) ys) e in (p.0, none_alike x ys p.1)

alone : (b c : Bool) → cond b false c ≡ true → (b ≡ false) × (c ≡ true)
alone true c e = absurd cc
alone false c e = (refl, e)

distinct : (xs : List (List ℕ)) → differ xs ≡ true → IsDistinct bytes_eq xs
unfolding IsDistinct
distinct [] e = tt
distinct (x ∷ xs) e = let p = alone (list_any (bytes_eq x) xs) (differ xs) e in (none_alike x xs p.0, distinct xs p.1)

pub no_spelling_twice : IsDistinct bytes_eq (spellings units)
unfolding times sizes binary_sizes shares
no_spelling_twice = distinct (spellings units) refl

-- ---- what every unit holds

pub unit_stored : (unit : Unit) → IsUtf8 (unit_text (unit_cell unit)) → IsUnit (unit_cell unit)
unfolding times sizes binary_sizes shares
unit_stored TheVariants.Nanosecond utf8 = refl
unit_stored TheVariants.Microsecond utf8 = refl
unit_stored TheVariants.Millisecond utf8 = refl
unit_stored TheVariants.Second utf8 = refl
unit_stored TheVariants.Minute utf8 = refl
unit_stored TheVariants.Hour utf8 = refl
unit_stored TheVariants.Day utf8 = refl
unit_stored TheVariants.Week utf8 = refl
unit_stored TheVariants.Bit utf8 = refl
unit_stored TheVariants.Byte utf8 = refl
unit_stored TheVariants.Kilobyte utf8 = refl
unit_stored TheVariants.Kibibyte utf8 = refl
unit_stored TheVariants.Megabyte utf8 = refl
unit_stored TheVariants.Mebibyte utf8 = refl
unit_stored TheVariants.Gigabyte utf8 = refl
unit_stored TheVariants.Gibibyte utf8 = refl
unit_stored TheVariants.Terabyte utf8 = refl
unit_stored TheVariants.Tebibyte utf8 = refl
unit_stored TheVariants.Petabyte utf8 = refl
unit_stored TheVariants.Pebibyte utf8 = refl
unit_stored TheVariants.Exabyte utf8 = refl
unit_stored TheVariants.Exbibyte utf8 = refl
unit_stored TheVariants.Ratio utf8 = refl
unit_stored TheVariants.Percent utf8 = refl
unit_stored (TheVariants.Other word) utf8 = utf8

-- ---- the normal form of a unit

normal_is : (unit : Unit) → unit_norm (unit_cell unit) ≡ unwrap_or (found units (unit_text (unit_cell unit))) (unit_cell unit)
unfolding times sizes binary_sizes shares
normal_is TheVariants.Nanosecond = refl
normal_is TheVariants.Microsecond = refl
normal_is TheVariants.Millisecond = refl
normal_is TheVariants.Second = refl
normal_is TheVariants.Minute = refl
normal_is TheVariants.Hour = refl
normal_is TheVariants.Day = refl
normal_is TheVariants.Week = refl
normal_is TheVariants.Bit = refl
normal_is TheVariants.Byte = refl
normal_is TheVariants.Kilobyte = refl
normal_is TheVariants.Kibibyte = refl
normal_is TheVariants.Megabyte = refl
normal_is TheVariants.Mebibyte = refl
normal_is TheVariants.Gigabyte = refl
normal_is TheVariants.Gibibyte = refl
normal_is TheVariants.Terabyte = refl
normal_is TheVariants.Tebibyte = refl
normal_is TheVariants.Petabyte = refl
normal_is TheVariants.Pebibyte = refl
normal_is TheVariants.Exabyte = refl
normal_is TheVariants.Exbibyte = refl
normal_is TheVariants.Ratio = refl
normal_is TheVariants.Percent = refl
normal_is (TheVariants.Other word) = refl

normal_by : (unit : Unit) (s : List ℕ) (o : Option Unit) → s ≡ unit_text (unit_cell unit) → option_map unit_cell o ≡ found units s → unit_norm (unit_cell unit) ≡ unwrap_or (option_map unit_cell o) (unit_cell unit)
normal_by unit s o is known = normal_is unit ∙ ap (λ x. unwrap_or (found units x) (unit_cell unit)) (sym is) ∙ ap (λ x. unwrap_or x (unit_cell unit)) (sym known)

pub known_normal : (alloc : Global) (way : Way) (unit v : Unit) (s : List ℕ) (o : Option Unit) → way ≡ Normal alloc → o ≡ Some v → option_map unit_cell o ≡ found units s → s ≡ unit_text (unit_cell unit) → unit_cell v ≡ made way (spelled_kind unit_spelling) (unit_cell unit)
known_normal alloc way unit v s o normal there known is = made_normal way unit_kind (unit_cell unit) (unit_cell v) normal (sym (normal_by unit s o is known ∙ ap (λ x. unwrap_or (option_map unit_cell x) (unit_cell unit)) there))

pub other_normal : (alloc : Global) (way : Way) (unit v : Unit) (s : List ℕ) (o : Option Unit) → way ≡ Normal alloc → o ≡ None → option_map unit_cell o ≡ found units s → s ≡ unit_text (unit_cell unit) → unit_cell v ≡ unit_cell unit → unit_cell v ≡ made way (spelled_kind unit_spelling) (unit_cell unit)
other_normal alloc way unit v s o normal none known is same = made_normal way unit_kind (unit_cell unit) (unit_cell v) normal (same ∙ sym (normal_by unit s o is known ∙ ap (λ x. unwrap_or (option_map unit_cell x) (unit_cell unit)) none))
