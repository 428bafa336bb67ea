-- The basic scalars are lawful.
use Rattle.std.proofs.Common.{◌≡◌, ◌⊎◌, ◌≤◌, ◌<◌, ◌^◌, ℕ, pos, negsuc, Bool, true, false, cond, nat_lt, Option, Some, None, option_map, option_and_then, inl, inr, refl, sym, ap, ◌∙◌, subst, arith, lt-ltb}
use Rattle.std.proofs.lemmas.Option.{same_Some}
use Rattle.std.proofs.lemmas.Bool.{false≢true, ltb-true}
use Rattle.serde_json.specs.Data.{unsigned, negative, float, Data, null, boolean, number, string, array, Items, no_items, item}
use Rattle.serde_json.specs.Find.{as_array, as_str, as_bool, as_number, as_u64}
use Rattle.sentry_json.specs.Sound.{IsSound, AreSound}
use Rattle.sentry_json.proofs.Sound.{regular_sound, sound_regular, sound_texts, sound_without_float}
use Rattle.sentry_tables.specs.Cell.{Cell, text, truth, whole, any, sequence, cell, no_cells}
use Rattle.sentry_tables.specs.Kind.{scalar}
use Rattle.sentry_tables.specs.Written.{is_null}
use Rattle.sentry_tables.specs.Lawful.{ScalarLaws, RefusesNull}
use Rattle.sentry_tables.specs.Basic.{read_by, IsText, text_tree, text_scalar, IsTruth, truth_tree, truth_scalar, whole_below, IsBelow, IsWithin, whole_tree, unsigned_scalar, signed_at, signed_scalar, u64_of, pair_cell, pair_of, IsPair, pair_tree, pair_scalar, IsTree, IsWholeTree, any_tree, is_null_tree, any_scalar}

-- what a scalar that is read by a function owes
pub record ReaderLaws (reads : Data → Option Cell) (writes : Cell → Data) (Stored : Cell → Type 0) : Type 0 where
  pub back : (c : Cell) → Stored c → reads (writes c) ≡ Some c
  pub sound : (c : Cell) → Stored c → IsSound (writes c)
  pub not_null : (c : Cell) → Stored c → is_null (writes c) ≡ false
  pub shown : (d : Data) (c : Cell) → IsSound d → reads d ≡ Some c → Stored c

pub told : (o : Option Cell) → ((c : Cell) × (o ≡ Some c)) ⊎ ((c : Cell) → o ≡ Some c → ⊥)
told None = inr (λ c e. cc)
told (Some c) = inl (c, refl)

pub lawful_reader : (reads : Data → Option Cell) (writes : Cell → Data) (Stored : Cell → Type 0) → ReaderLaws reads writes Stored → ScalarLaws (read_by reads writes Stored)
lawful_reader reads writes Stored own = record {
  back = λ c p q. own.back c p.0;
  single = λ d c x h k. same_Some c x (sym h ∙ k);
  again = λ c p. refl;
  stored_norm = λ c p. p.0;
  plain_norm = λ c p. tt;
  readable_norm = λ c p q. tt;
  depth_norm = λ c p. omega arith;
  null_tree = λ c p. own.not_null c p;
  null_norm = λ c p. refl;
  sound = λ c p. own.sound c p.0;
  shown_stored = own.shown;
  shown_plain = λ d c s h. tt;
  shown_readable = λ d c s h. tt;
  shown_null = λ d c h e. absurd (false≢true e);
  shown_tree = λ d c s h. refl;
  decide = λ d. told (reads d);
}

-- a reader that reads nothing of null shows nothing of it
pub reader_refuses_null : (reads : Data → Option Cell) (writes : Cell → Data) (Stored : Cell → Type 0) → reads null ≡ None → RefusesNull (scalar (read_by reads writes Stored))
reader_refuses_null reads writes Stored e now c h = cc

-- ---- texts

text_shown : (d : Data) (c : Cell) → IsSound d → option_map text (as_str d) ≡ Some c → IsText c
text_shown (string s) c h e = subst IsText (same_Some (text s) c e) h
text_shown _ c h e = absurd (cc)

text_back : (c : Cell) → IsText c → option_map text (as_str (text_tree c)) ≡ Some c
text_back (text s) p = refl
text_back _ p = absurd p

text_sound : (c : Cell) → IsText c → IsSound (text_tree c)
text_sound (text s) p = p
text_sound _ p = absurd p

text_not_null : (c : Cell) → IsText c → is_null (text_tree c) ≡ false
text_not_null (text s) p = refl
text_not_null _ p = absurd p

pub text_laws : ScalarLaws text_scalar
text_laws = lawful_reader (λ d. option_map text (as_str d)) text_tree IsText (record { back = text_back; sound = text_sound; not_null = text_not_null; shown = text_shown })

pub text_refuses_null : RefusesNull (scalar text_scalar)
text_refuses_null = reader_refuses_null (λ d. option_map text (as_str d)) text_tree IsText refl

-- ---- truth values

truth_shown : (d : Data) (c : Cell) → IsSound d → option_map truth (as_bool d) ≡ Some c → IsTruth c
truth_shown (boolean b) c h e = subst IsTruth (same_Some (truth b) c e) tt
truth_shown _ c h e = absurd (cc)

truth_back : (c : Cell) → IsTruth c → option_map truth (as_bool (truth_tree c)) ≡ Some c
truth_back (truth b) p = refl
truth_back _ p = absurd p

truth_sound : (c : Cell) → IsTruth c → IsSound (truth_tree c)
truth_sound (truth b) p = tt
truth_sound _ p = absurd p

truth_not_null : (c : Cell) → IsTruth c → is_null (truth_tree c) ≡ false
truth_not_null (truth b) p = refl
truth_not_null _ p = absurd p

pub truth_laws : ScalarLaws truth_scalar
truth_laws = lawful_reader (λ d. option_map truth (as_bool d)) truth_tree IsTruth (record { back = truth_back; sound = truth_sound; not_null = truth_not_null; shown = truth_shown })

pub truth_refuses_null : RefusesNull (scalar truth_scalar)
truth_refuses_null = reader_refuses_null (λ d. option_map truth (as_bool d)) truth_tree IsTruth refl

-- ---- whole numbers

-- what is read as a whole number is in range
below : (b : Bool) (bound n : ℕ) (c : Cell) → nat_lt n bound ≡ b → cond b (Some (whole (pos n))) None ≡ Some c → IsBelow bound c
below true bound n c e f = subst (IsBelow bound) (same_Some (whole (pos n)) c f) (ltb-true n bound e)
below false bound n c e f = absurd (cc)

within : (b : Bool) (bound n : ℕ) (c : Cell) → nat_lt n bound ≡ b → cond b (Some (whole (pos n))) None ≡ Some c → IsWithin bound c
within true bound n c e f = subst (IsWithin bound) (same_Some (whole (pos n)) c f) (ltb-true n bound e)
within false bound n c e f = absurd (cc)

within_negative : (b : Bool) (bound n : ℕ) (c : Cell) → nat_lt n bound ≡ b → cond b (Some (whole (negsuc n))) None ≡ Some c → IsWithin bound c
within_negative true bound n c e f = subst (IsWithin bound) (same_Some (whole (negsuc n)) c f) (ltb-true n bound e)
within_negative false bound n c e f = absurd (cc)

module _ (bound : ℕ) where
  abbrev reads_unsigned : Data → Option Cell
  reads_unsigned d = option_and_then (whole_below bound) (option_and_then as_u64 (as_number d))

  unsigned_shown : (d : Data) (c : Cell) → IsSound d → reads_unsigned d ≡ Some c → IsBelow bound c
  unsigned_shown (number (unsigned n)) c h e = below _ bound n c refl e
  unsigned_shown (number (negative z)) c h e = absurd (cc)
  unsigned_shown (number (float x)) c h e = absurd (cc)
  unsigned_shown _ c h e = absurd (cc)

  unsigned_back : (c : Cell) → IsBelow bound c → reads_unsigned (whole_tree c) ≡ Some c
  unsigned_back (whole (pos n)) p = ap (λ b. cond b (Some (whole (pos n))) None) (lt-ltb n bound p)
  unsigned_back (whole (negsuc n)) p = absurd p
  unsigned_back _ p = absurd p

  unsigned_sound : bound ≤ 2 ^ 64 → (c : Cell) → IsBelow bound c → IsSound (whole_tree c)
  unsigned_sound most (whole (pos n)) p = omega arith
  unsigned_sound most (whole (negsuc n)) p = absurd p
  unsigned_sound most _ p = absurd p

  unsigned_not_null : (c : Cell) → IsBelow bound c → is_null (whole_tree c) ≡ false
  unsigned_not_null (whole (pos n)) p = refl
  unsigned_not_null (whole (negsuc n)) p = absurd p
  unsigned_not_null _ p = absurd p

  pub unsigned_laws : bound ≤ 2 ^ 64 → ScalarLaws (unsigned_scalar bound)
  unsigned_laws most = lawful_reader reads_unsigned whole_tree (IsBelow bound) (record { back = unsigned_back; sound = unsigned_sound most; not_null = unsigned_not_null; shown = unsigned_shown })

  pub unsigned_refuses_null : RefusesNull (scalar (unsigned_scalar bound))
  unsigned_refuses_null = reader_refuses_null reads_unsigned whole_tree (IsBelow bound) refl

  abbrev reads_signed : Data → Option Cell
  reads_signed d = option_and_then (signed_at bound) (as_number d)

  signed_shown : (d : Data) (c : Cell) → IsSound d → reads_signed d ≡ Some c → IsWithin bound c
  signed_shown (number (unsigned n)) c h e = within _ bound n c refl e
  signed_shown (number (negative (pos n))) c h e = absurd (cc)
  signed_shown (number (negative (negsuc n))) c h e = within_negative _ bound n c refl e
  signed_shown (number (float x)) c h e = absurd (cc)
  signed_shown _ c h e = absurd (cc)

  signed_back : (c : Cell) → IsWithin bound c → reads_signed (whole_tree c) ≡ Some c
  signed_back (whole (pos n)) p = ap (λ b. cond b (Some (whole (pos n))) None) (lt-ltb n bound p)
  signed_back (whole (negsuc n)) p = ap (λ b. cond b (Some (whole (negsuc n))) None) (lt-ltb n bound p)
  signed_back _ p = absurd p

  signed_sound : bound ≤ 2 ^ 63 → (c : Cell) → IsWithin bound c → IsSound (whole_tree c)
  signed_sound most (whole (pos n)) p = omega arith
  signed_sound most (whole (negsuc n)) p = omega arith
  signed_sound most _ p = absurd p

  signed_not_null : (c : Cell) → IsWithin bound c → is_null (whole_tree c) ≡ false
  signed_not_null (whole (pos n)) p = refl
  signed_not_null (whole (negsuc n)) p = refl
  signed_not_null _ p = absurd p

  pub signed_laws : bound ≤ 2 ^ 63 → ScalarLaws (signed_scalar bound)
  signed_laws most = lawful_reader reads_signed whole_tree (IsWithin bound) (record { back = signed_back; sound = signed_sound most; not_null = signed_not_null; shown = signed_shown })

  pub signed_refuses_null : RefusesNull (scalar (signed_scalar bound))
  signed_refuses_null = reader_refuses_null reads_signed whole_tree (IsWithin bound) refl

pub u32_laws : ScalarLaws (unsigned_scalar (2 ^ 32))
u32_laws = unsigned_laws (2 ^ 32) (omega arith)

pub u64_laws : ScalarLaws (unsigned_scalar (2 ^ 64))
u64_laws = unsigned_laws (2 ^ 64) (omega arith)

pub i32_laws : ScalarLaws (signed_scalar (2 ^ 31))
i32_laws = signed_laws (2 ^ 31) (omega arith)

-- ---- pairs of whole numbers

abbrev reads_pair : Data → Option Cell
reads_pair d = option_and_then pair_of (as_array d)

-- a whole number of a sound tree is below 2^64
u64_below : (d : Data) (n : ℕ) → IsSound d → u64_of d ≡ Some n → n < 2 ^ 64
u64_below (number (unsigned m)) n h e = subst (λ k. k < 2 ^ 64) (same_Some m n e) h
u64_below (number (negative z)) n h e = absurd (cc)
u64_below (number (float x)) n h e = absurd (cc)
u64_below _ n h e = absurd (cc)

pair_from : (a b : Option ℕ) (c : Cell) → ((m : ℕ) → a ≡ Some m → m < 2 ^ 64) → ((n : ℕ) → b ≡ Some n → n < 2 ^ 64) → option_and_then (λ m. option_map (pair_cell m) b) a ≡ Some c → IsPair c
pair_from None b c p q e = absurd (cc)
pair_from (Some m) None c p q e = absurd (cc)
pair_from (Some m) (Some n) c p q e = subst IsPair (same_Some (pair_cell m n) c e) (p m refl, q n refl)

pair_items : (ds : Items) (c : Cell) → AreSound ds → pair_of ds ≡ Some c → IsPair c
pair_items no_items c h e = absurd (cc)
pair_items (item a no_items) c h e = absurd (cc)
pair_items (item a (item b no_items)) c h e = pair_from (u64_of a) (u64_of b) c (λ m. u64_below a m h.0) (λ n. u64_below b n h.1.0) e
pair_items (item a (item b (item x ds))) c h e = absurd (cc)

pair_shown : (d : Data) (c : Cell) → IsSound d → reads_pair d ≡ Some c → IsPair c
pair_shown (array ds) c h e = pair_items ds c h e
pair_shown _ c h e = absurd (cc)

-- a pair's numbers
pair_holds : (P : Cell → Type 0) → ((m n : ℕ) → m < 2 ^ 64 → n < 2 ^ 64 → P (pair_cell m n)) → (c : Cell) → IsPair c → P c
pair_holds P f (sequence (cell (whole (pos m)) (cell (whole (pos n)) no_cells))) p = f m n p.0 p.1
pair_holds P f _ p = absurd p

pub pair_laws : ScalarLaws pair_scalar
pair_laws =
    lawful_reader reads_pair pair_tree IsPair (record {
      back = pair_holds (λ c. reads_pair (pair_tree c) ≡ Some c) (λ m n p q. refl);
      sound = pair_holds (λ c. IsSound (pair_tree c)) (λ m n p q. (p, (q, tt)));
      not_null = pair_holds (λ c. is_null (pair_tree c) ≡ false) (λ m n p q. refl);
      shown = pair_shown;
    })

-- ---- trees

-- a stored cell is a tree
pub tree_holds : (P : Cell → Type 0) → ((d : Data) → P (any d)) → (c : Cell) → IsTree c → P c
tree_holds P f (any d) p = f d
tree_holds P f _ p = absurd p

any_sound : (c : Cell) → IsTree c → IsWholeTree c → IsSound (any_tree c)
any_sound (any d) p q = regular_sound d p.0 q p.1
any_sound _ p q = absurd p

pub any_laws : ScalarLaws any_scalar
any_laws = record {
  back = λ c p q. tree_holds (λ x. any (any_tree x) ≡ x) (λ d. refl) c p.0;
  single = λ d c x h k. sym h ∙ k;
  again = λ c p. refl;
  stored_norm = λ c p. p.0;
  plain_norm = λ c p. p.1;
  readable_norm = λ c p q. tt;
  depth_norm = λ c p. omega arith;
  null_tree = λ c p. tree_holds (λ x. is_null (any_tree x) ≡ is_null_tree x) (λ d. refl) c p;
  null_norm = λ c p. refl;
  sound = λ c p. any_sound c p.0 p.1;
  shown_stored = λ d c s h. subst IsTree h (sound_regular d s, sound_texts d s);
  shown_plain = λ d c s h. subst IsWholeTree h (sound_without_float d s);
  shown_readable = λ d c s h. tt;
  shown_null = λ d c h e. ap is_null_tree h ∙ e;
  shown_tree = λ d c s h. refl;
  decide = λ d. inl (any d, refl);
}
