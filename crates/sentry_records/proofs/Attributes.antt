-- Attributes are lawful; what their readers and writers answer.
use Rattle.std.proofs.Common.{Global, ◌≡◌, ◌≤◌, ◌^◌, ℕ, pos, negsuc, nat_lt, List, codes, Bool, true, false, cond, Option, Some, None, option_map, option_and_then, Result, Ok, refl, sym, ap, ◌∙◌, subst, arith, IsUtf8}
use Rattle.std.proofs.lemmas.Bool.{false≢true}
use Rattle.std.proofs.lemmas.Option.{none-some, same_Some}
use Rattle.std.specs.Prelude.{OnOk, is_some, if◌then◌else◌}
use Rattle.json.specs.Token.{Token}
use Rattle.json.specs.Written.{Written, Writes}
use Rattle.serde_json.specs.Data.{Num, unsigned, negative, float, Data, null, boolean, number, string, array, object, Members, no_members, member, depth}
use Rattle.serde_json.specs.Find.{get, get_member, as_str, of_integer}
use Rattle.serde_json.specs.Written.{has_float, compact_text}
use Rattle.sentry_json.specs.Sound.{IsSound}
use Rattle.sentry_json.proofs.Bytes.{IsUtf8-compact_text}
use Rattle.sentry_json.proofs.Sound.{regular_sound, sound_regular, sound_texts, sound_without_float}
use Rattle.sentry_tables.specs.Basic.{IsTree, IsWholeTree}
use Rattle.sentry_tables.specs.Cell.{Cell, any}
use Rattle.sentry_tables.specs.Kind.{tag}
use Rattle.sentry_tables.specs.Laws.{HasLaws}
use Rattle.sentry_tables.proofs.Laws.{has_laws}
use Rattle.sentry_tables.specs.Lawful.{ScalarLaws, IsLawful, RefusesNull}
use Rattle.sentry_tables.specs.Written.{put_all, is_null}
use Rattle.sentry_tables.proofs.Basic.{told, tree_holds}
use Rattle.sentry_tables.proofs.Shown.{SoundIf, found_sound}
use Rattle.sentry_tables.proofs.Sound.{ascii_text}
use Rattle.sentry_tables.specs.Kinds.{any_kind}
use Rattle.sentry_tables.specs.Made.{made}
use Rattle.sentry_tables.specs.Writes.{written, WritesTree, WritesMembers}
use Rattle.sentry_tables.proofs.Tokens.{object_wrote}
use Rattle.sentry_writing.specs.Given.{both}
use Rattle.sentry_tables.specs.Reading.{Shown, Refused, Only}
use Rattle.sentry_tables.specs.declared.error.TreeError.{TreeError}
use Rattle.sentry_tables.specs.declared.error.TreeError.TheVariants.{Misfit, Memory}
use Rattle.sentry_tables.specs.declared.way.Way.TheVariants.{Same, Normal}
use Rattle.sentry_records.specs.LogAttribute.{value_key, is_integer, text_value, integer_value, truth_value, typed_value, attribute_of, compacted, attribute_form, type_word, attribute_members, attribute_tree, attribute_norm, attribute_scalar, attribute_kind}

-- ---- the form

-- a whole number in range is read as it is
integer_by : (n : ℕ) (b : Bool) → is_some (if b then Some (pos n) else None) ≡ true → option_map (λ z. number (of_integer z)) (if b then Some (pos n) else None) ≡ Some (number (unsigned n))
integer_by n true e = refl
integer_by n false e = absurd cc

integer_is : (n : Num) → is_integer n ≡ true → IsSound (number n) → integer_value (number n) ≡ Some (number n)
integer_is (unsigned n) e s = integer_by n (nat_lt n (2 ^ 63)) e
integer_is (negative (pos n)) e s = absurd s
integer_is (negative (negsuc n)) e s = refl
integer_is (float x) e s = absurd cc

module _ (P : Data → Type 0) where
  number_form : (t : Bool) (n : Num) → is_integer n ≡ t → IsSound (number n) → ((m : Num) → is_integer m ≡ true → IsSound (number m) → P (number m)) → ((s : List ℕ) → P (string s)) → P (cond t (number n) (compacted (number n)))
  number_form true n e h f g = f n e h
  number_form false n e h f g = g _

  -- a form is a truth value, a whole number within 64 bits with their sign, or a text
  by_form : ((b : Bool) → P (boolean b)) → ((n : Num) → is_integer n ≡ true → IsSound (number n) → P (number n)) → ((s : List ℕ) → P (string s)) → (d : Data) → IsSound d → P (attribute_form d)
  by_form b n s null h = s _
  by_form b n s (boolean x) h = b x
  by_form b n s (number x) h = number_form (is_integer x) x refl h n s
  by_form b n s (string x) h = s x
  by_form b n s (array ds) h = s _
  by_form b n s (object ms) h = s _

form_again : (d : Data) → IsSound d → attribute_form (attribute_form d) ≡ attribute_form d
form_again d h = by_form (λ e. attribute_form e ≡ e) (λ b. refl) (λ n e s. rw e refl) (λ s. refl) d h

compacted_sound : (d : Data) → IsSound d → IsSound (compacted d)
compacted_sound d s = rw (sound_without_float d s) (IsUtf8-compact_text d s)

number_sound : (t : Bool) (n : Num) → IsSound (number n) → IsSound (cond t (number n) (compacted (number n)))
number_sound true n s = s
number_sound false n s = compacted_sound (number n) s

form_sound : (d : Data) → IsSound d → IsSound (attribute_form d)
form_sound null s = compacted_sound null s
form_sound (boolean b) s = s
form_sound (number n) s = number_sound (is_integer n) n s
form_sound (string t) s = s
form_sound (array ds) s = compacted_sound (array ds) s
form_sound (object ms) s = compacted_sound (object ms) s

-- ---- the written tree

reads_form : (d : Data) → IsSound d → attribute_of (object (attribute_members (attribute_form d))) ≡ Some (any (attribute_form d))
reads_form d h = by_form (λ e. attribute_of (object (attribute_members e)) ≡ Some (any e)) (λ b. refl) (λ n e s. ap (option_map any) (integer_is n e s)) (λ s. refl) d h

word_text : (d : Data) → IsSound d → IsUtf8 (type_word (attribute_form d))
word_text d h =
    by_form (λ e. IsUtf8 (type_word e)) (λ b. ascii_text (codes "boolean") refl) (λ n e s. ascii_text (codes "integer") refl) (λ s. ascii_text (codes "string") refl) d h

members_sound : (d : Data) → IsSound d → IsSound (object (attribute_members (attribute_form d)))
members_sound d s = (((refl, tt), (tt, tt)), (ascii_text tag refl, word_text d s, (ascii_text value_key refl, form_sound d s, tt)))

-- ---- what is shown

sound_at : (o : Option Data) (v : Data) → SoundIf o → o ≡ Some v → IsSound v
sound_at None v h e = absurd cc
sound_at (Some w) v h e = subst IsSound (same_Some w v e) h

found : (k : List ℕ) (d v : Data) → IsSound d → get k d ≡ Some v → IsSound v
found k (object ms) v s e = sound_at (get_member k ms) v (found_sound k ms s.1) e
found k _ v s e = absurd cc

-- a value that is read is sound, and its own form
abbrev IsRead : Data → Type 0
IsRead e = IsSound e × (attribute_form e ≡ e)

module _ (e : Data) where
  text_read : (v : Data) → IsSound v → text_value v ≡ Some e → IsRead e
  text_read (string s) h is = subst IsRead (same_Some (string s) e is) (h, refl)
  text_read _ h is = absurd cc

  truth_read : (v : Data) → IsSound v → truth_value v ≡ Some e → IsRead e
  truth_read (boolean b) h is = subst IsRead (same_Some (boolean b) e is) (tt, refl)
  truth_read _ h is = absurd cc

  unsigned_read : (n : ℕ) (b : Bool) → nat_lt n (2 ^ 63) ≡ b → IsSound (number (unsigned n)) → option_map (λ z. number (of_integer z)) (if b then Some (pos n) else None) ≡ Some e → IsRead e
  unsigned_read n true i h is = subst IsRead (same_Some (number (unsigned n)) e is) (h, rw i refl)
  unsigned_read n false i h is = absurd cc

  integer_read : (v : Data) → IsSound v → integer_value v ≡ Some e → IsRead e
  integer_read (number (unsigned n)) h is = unsigned_read n (nat_lt n (2 ^ 63)) refl h is
  integer_read (number (negative (pos n))) h is = absurd h
  integer_read (number (negative (negsuc n))) h is = subst IsRead (same_Some (number (negative (negsuc n))) e is) (h, refl)
  integer_read (number (float x)) h is = absurd h
  integer_read _ h is = absurd cc

  typed_by : (a b c : Bool) (v : Data) → IsSound v → option_and_then (λ reader. reader v) (cond a (Some text_value) (cond b (Some integer_value) (cond c (Some truth_value) None))) ≡ Some e → IsRead e
  typed_by true b c v h is = text_read v h is
  typed_by false true c v h is = integer_read v h is
  typed_by false false true v h is = truth_read v h is
  typed_by false false false v h is = absurd cc

  value_read : (word : List ℕ) (o : Option Data) → SoundIf o → option_and_then (typed_value word) o ≡ Some e → IsRead e
  value_read word None h is = absurd cc
  value_read word (Some v) h is = typed_by _ _ _ v h is

  word_read : (w : Option (List ℕ)) (o : Option Data) → SoundIf o → option_and_then (λ word. option_and_then (typed_value word) o) w ≡ Some e → IsRead e
  word_read None o h is = absurd cc
  word_read (Some word) o h is = value_read word o h is

sound_if : (k : List ℕ) (d : Data) → IsSound d → SoundIf (get k d)
sound_if k (object ms) s = found_sound k ms s.1
sound_if k _ s = tt

attribute_shown : (P : Cell → Type 0) → ((e : Data) → IsRead e → P (any e)) → (d : Data) (c : Cell) → IsSound d → attribute_of d ≡ Some c → P c
attribute_shown P f d c s is = from (option_and_then (λ word. option_and_then (typed_value word) (get value_key d)) (option_and_then as_str (get tag d))) refl is
  where
    from : (o : Option Data) → option_and_then (λ word. option_and_then (typed_value word) (get value_key d)) (option_and_then as_str (get tag d)) ≡ o → option_map any o ≡ Some c → P c
    from None e g = absurd cc
    from (Some v) e g = subst P (same_Some (any v) c g) (f v (word_read v (option_and_then as_str (get tag d)) (get value_key d) (sound_if value_key d s) e))

-- ---- laws

whole_at : (P : Cell → Type 0) → ((d : Data) → IsSound d → P (any d)) → (c : Cell) → IsTree c × IsWholeTree c → P c
whole_at P f (any d) p = f d (regular_sound d p.0.0 p.1 p.0.1)
whole_at P f _ p = absurd p.0

normal : (c : Cell) → IsTree c × IsWholeTree c → attribute_norm (attribute_norm c) ≡ attribute_norm c
normal c p = whole_at (λ x. attribute_norm (attribute_norm x) ≡ attribute_norm x) (λ d s. ap any (form_again d s)) c p

same_tree : (c : Cell) → IsTree c × IsWholeTree c → attribute_tree (attribute_norm c) ≡ attribute_tree c
same_tree c p = whole_at (λ x. attribute_tree (attribute_norm x) ≡ attribute_tree x) (λ d s. ap (λ e. object (attribute_members e)) (form_again d s)) c p

reads_back : (c : Cell) → IsTree c × IsWholeTree c → attribute_of (attribute_tree c) ≡ Some (attribute_norm c)
reads_back c p = whole_at (λ x. attribute_of (attribute_tree x) ≡ Some (attribute_norm x)) reads_form c p

shallow : (a b : Data) → a ≡ b → depth a ≤ depth b
shallow a b e = rw e (omega arith)

attribute_laws : ScalarLaws attribute_scalar
attribute_laws = record {
  back = λ c p q. reads_back c p;
  single = λ d c x h k. same_Some c x (sym h ∙ k);
  again = λ c p. normal c p;
  stored_norm = λ c p. whole_at (λ x. IsTree (attribute_norm x)) (λ d s. let t = form_sound d s in (sound_regular (attribute_form d) t, sound_texts (attribute_form d) t)) c p;
  plain_norm = λ c p. whole_at (λ x. IsWholeTree (attribute_norm x)) (λ d s. sound_without_float (attribute_form d) (form_sound d s)) c p;
  readable_norm = λ c p q. tt;
  depth_norm = λ c p. shallow _ _ (same_tree c p);
  null_tree = λ c p. tree_holds (λ x. is_null (attribute_tree x) ≡ false) (λ d. refl) c p;
  null_norm = λ c p. refl;
  sound = λ c p. whole_at (λ x. IsSound (attribute_tree x)) members_sound c p;
  shown_stored = λ d c s h. attribute_shown IsTree (λ e r. (sound_regular e r.0, sound_texts e r.0)) d c s h;
  shown_plain = λ d c s h. attribute_shown IsWholeTree (λ e r. sound_without_float e r.0) d c s h;
  shown_readable = λ d c s h. tt;
  shown_null = λ d c h e. absurd (false≢true e);
  shown_tree = λ d c s h. attribute_shown (λ x. attribute_tree x ≡ attribute_tree (attribute_norm x)) (λ e r. ap (λ x. attribute_tree (any x)) (sym r.1)) d c s h;
  decide = λ d. told (attribute_of d);
}

pub attribute_lawful : IsLawful attribute_kind
unfolding attribute_kind
attribute_lawful = attribute_laws

pub attribute_refuses_null : RefusesNull attribute_kind
unfolding attribute_kind
attribute_refuses_null now c h = absurd cc

-- ---- made anew

pub attribute_same : (c d : Cell) → d ≡ c → d ≡ made Same attribute_kind c
unfolding made
attribute_same c d is = is

pub attribute_normal : (alloc : Global) (v w : Data) → w ≡ attribute_form v → any w ≡ made (Normal alloc) attribute_kind (any v)
unfolding made attribute_kind
attribute_normal alloc v w is = ap any is

-- ---- read

pub attribute_is : (d e v : Data) (word : List ℕ) → option_and_then as_str (get tag d) ≡ Some word → get value_key d ≡ Some e → typed_value word e ≡ Some v → Shown attribute_kind d (any v)
unfolding Shown attribute_kind
attribute_is d e v word at found is now = rw (at, found) (ap (option_map any) is)

no_attribute : (d : Data) → attribute_of d ≡ None → Refused attribute_kind d
unfolding Refused attribute_kind
no_attribute d is now c h = none-some c (sym is ∙ h)

pub no_type : (d : Data) → option_and_then as_str (get tag d) ≡ None → Refused attribute_kind d
no_type d is = no_attribute d (rw is refl)

pub no_value : (d : Data) → get value_key d ≡ None → Refused attribute_kind d
no_value d is = no_attribute d (ap (option_map any) (nothing (option_and_then as_str (get tag d))))
  where
    nothing : (o : Option (List ℕ)) → option_and_then (λ word. option_and_then (typed_value word) (get value_key d)) o ≡ None
    nothing None = refl
    nothing (Some word) = ap (option_and_then (typed_value word)) is

pub another_type : (d e : Data) (word : List ℕ) (x : TreeError) → option_and_then as_str (get tag d) ≡ Some word → get value_key d ≡ Some e → Only x (typed_value word e ≡ None) → Only x (Refused attribute_kind d)
another_type d e word Misfit at found is = no_attribute d (rw (at, found) (ap (option_map any) is))
another_type d e word Memory at found is = tt

pub attribute_has_laws : HasLaws attribute_kind
attribute_has_laws = has_laws attribute_kind attribute_lawful

-- ---- written

-- what a sink takes of a type and a value
module _ {S : Type 0} (Adds : S → S → Members → Type 0) (joined : (a b c : S) (ms ns : Members) → Adds a b ms → Adds b c ns → Adds a c (both ms ns)) where
  pub gave : (word : List ℕ) (e : Data) (a b c : S) → Adds a b (member tag (string word) no_members) → Adds b c (member value_key e no_members) → Adds a c (member tag (string word) (member value_key e no_members))
  gave word e a b c x y = joined a b c (member tag (string word) no_members) (member value_key e no_members) x y

  pub gave_any : (word : List ℕ) (e : Data) (a b c : S) → Adds a b (member tag (string word) no_members) → Adds b c (member value_key (written any_kind (any e)) no_members) → Adds a c (member tag (string word) (member value_key e no_members))
  unfolding written
  gave_any word e a b c x y = gave word e a b c x y

pub compact_is : (d : Data) (s t : List ℕ) → has_float d ≡ false → (has_float (written any_kind (any d)) ≡ false → s ≡ compact_text (written any_kind (any d))) → t ≡ s → string t ≡ compacted d
unfolding written
compact_is d s t whole is same = rw whole (ap string (same ∙ is whole))

pub tree_is : (v d : Data) (old new : Members) → d ≡ object new → new ≡ put_all (attribute_members (attribute_form v)) old → old ≡ no_members → d ≡ written attribute_kind (any v)
unfolding written attribute_kind
tree_is v d old new is made empty = is ∙ rw (made, empty) refl

pub attribute_wrote : {E F : Type 0} (v : Data) (r : Result (Unit {0}) E) (a b c d : Written) → Writes {E = F} (Ok tt) a b Token.begin_object → WritesMembers (attribute_members (attribute_form v)) b c → Writes r c d Token.end_object → OnOk r (WritesTree (written attribute_kind (any v)) a d)
unfolding written attribute_kind
attribute_wrote v r a b c d x y z = object_wrote (attribute_members (attribute_form v)) r a b c d x y z

pub compact_utf8 : (d : Data) (s : List ℕ) → has_float d ≡ false → (has_float (written any_kind (any d)) ≡ false → IsUtf8 s) → IsUtf8 s
unfolding written
compact_utf8 d s whole is = is whole
