-- Spellings are lawful, and what their readers and writers answer.
use Rattle.std.proofs.Common.{◌≡◌, ◌⊎◌, ℕ, List, Option, Some, None, option_map, Result, Ok, Err, OnOk, inr, refl, sym, ap, ◌∙◌, subst, arith, IsUtf8}
use Rattle.std.proofs.lemmas.Option.{same_Some}
use Rattle.std.proofs.lemmas.Bool.{false≢true}
use Rattle.json.specs.Token.{Token}
use Rattle.json.specs.Written.{Written, Writes}
use Rattle.serde_json.specs.Data.{Data, string}
use Rattle.serde_json.specs.Find.{as_str}
use Rattle.sentry_json.specs.Sound.{IsSound}
use Rattle.sentry_tables.specs.Cell.{Cell}
use Rattle.sentry_tables.specs.Lawful.{ScalarLaws, RefusesNull}
use Rattle.sentry_tables.specs.Laws.{HasLaws}
use Rattle.sentry_tables.proofs.Basic.{told}
use Rattle.sentry_tables.proofs.Laws.{has_laws}
use Rattle.sentry_tables.specs.Reading.{Shown, Refused, Reads}
use Rattle.sentry_tables.specs.Spelling.{Spelling, Texted, spelled, spelled_kind, SpellingLaws, read_to, read_as, word_cell, word_of, IsWord, enumeration, ReadsSpelling}
use Rattle.sentry_tables.specs.Writes.{written, WritesTree}
use Rattle.sentry_tables.specs.declared.error.TreeError.{TreeError}
use Rattle.sentry_tables.specs.declared.error.TreeError.TheVariants.{Misfit, Memory}
use Rattle.sentry_tables.proofs.Tokens.{string_wrote}

module _ (S : Spelling) where
  -- what is shown is what some text spells
  from_text : (P : Cell → Type 0) → (d : Data) (c : Cell) → ((s : List ℕ) → d ≡ string s → S.spells s c → P c) → Texted S.spells (as_str d) c → P c
  from_text P (string s) c f h = f s refl h
  from_text P _ c f h = absurd h

  decided : SpellingLaws S → (o : Option (List ℕ)) → ((c : Cell) × Texted S.spells o c) ⊎ ((c : Cell) → Texted S.spells o c → ⊥)
  decided own None = inr (λ c h. h)
  decided own (Some s) = own.decide s

  texted_one : SpellingLaws S → (o : Option (List ℕ)) (c x : Cell) → Texted S.spells o c → Texted S.spells o x → c ≡ x
  texted_one own None c x h k = absurd h
  texted_one own (Some s) c x h k = own.one s c x h k

  pub spelled_laws : SpellingLaws S → ScalarLaws (spelled S)
  spelled_laws own = record {
    back = λ c p q. own.back c p.0 q;
    single = λ d c x h k. texted_one own (as_str d) c x h k;
    again = λ c p. own.again c p.0;
    stored_norm = λ c p. own.stored_norm c p.0;
    plain_norm = λ c p. tt;
    readable_norm = λ c p q. own.readable_norm c p.0 q;
    depth_norm = λ c p. omega arith;
    null_tree = λ c p. refl;
    null_norm = λ c p. refl;
    sound = λ c p. own.utf8 c p.0;
    shown_stored = λ d c sound h. from_text S.stored d c (λ s is e. own.spelled_stored s c (subst IsSound is sound) e) h;
    shown_plain = λ d c sound h. tt;
    shown_readable = λ d c sound h. from_text S.readable d c (λ s is e. own.spelled_readable s c (subst IsSound is sound) e) h;
    shown_null = λ d c h e. absurd (false≢true e);
    shown_tree = λ d c sound h. from_text (λ x. string (S.written x) ≡ string (S.written (S.norm x))) d c (λ s is e. ap string (own.spelled_written s c (subst IsSound is sound) e)) h;
    decide = λ d. decided own (as_str d);
  }

  pub spelled_has_laws : SpellingLaws S → HasLaws (spelled_kind S)
  spelled_has_laws own = has_laws (spelled_kind S) (spelled_laws own)

  pub spelled_refuses_null : RefusesNull (spelled_kind S)
  spelled_refuses_null now c h = h

  -- ---- reading

  texted : (o : Option (List ℕ)) (s : List ℕ) (c : Cell) → o ≡ Some s → S.spells s c → Texted S.spells o c
  texted o s c is h = subst (λ p. Texted S.spells p c) (sym is) h

  untexted : (o : Option (List ℕ)) (s : List ℕ) (c : Cell) → o ≡ Some s → Texted S.spells o c → S.spells s c
  untexted o s c is h = subst (λ p. Texted S.spells p c) is h

  no_text : (o : Option (List ℕ)) (c : Cell) → o ≡ None → Texted S.spells o c → ⊥
  no_text o c is h = subst (λ p. Texted S.spells p c) is h

  shown_text : (s : List ℕ) (d : Data) (c : Cell) → as_str d ≡ Some s → S.spells s c → Shown (spelled_kind S) d c
  unfolding Shown
  shown_text s d c is h now = texted (as_str d) s c is h

  refused_text : (s : List ℕ) (d : Data) → as_str d ≡ Some s → ((c : Cell) → S.spells s c → ⊥) → Refused (spelled_kind S) d
  unfolding Refused
  refused_text s d is h now c g = h c (untexted (as_str d) s c is g)

  pub text_read : {A : Type 0} (f : A → Cell) (s : List ℕ) (d : Data) (r : Result A TreeError) → as_str d ≡ Some s → ReadsSpelling S f s r → Reads (spelled_kind S) f d r
  text_read f s d (Ok v) is h = shown_text s d (f v) is h
  text_read f s d (Err Misfit) is h = refused_text s d is h
  text_read f s d (Err Memory) is h = tt

  pub not_text : (d : Data) → as_str d ≡ None → Refused (spelled_kind S) d
  unfolding Refused
  not_text d is now c h = no_text (as_str d) c is h

  -- ---- writing

  pub text_tree : (c : Cell) (d : Data) (s : List ℕ) → d ≡ string s → s ≡ S.written c → d ≡ written (spelled_kind S) c
  unfolding written
  text_tree c d s is e = is ∙ ap string e

  pub spelling_wrote : {E : Type 0} (c : Cell) (s : List ℕ) (r : Result (Unit {0}) E) (old new : Written) → s ≡ S.written c → Writes r old new (Token.string s)
      → OnOk r (WritesTree (written (spelled_kind S) c) old new)
  unfolding written
  spelling_wrote c s r old new is h = string_wrote (S.written c) r old new (subst (λ t. Writes r old new (Token.string t)) is h)

-- ---- spellings that are read by a function

-- what a function owes that reads texts, and a normal form
pub record ReadLaws (of_text : List ℕ → Option Cell) (to_text : Cell → List ℕ) (norm : Cell → Cell) (Stored : Cell → Type 0) : Type 0 where
  -- the normal form of a stored value is read from its written text
  pub reads : (c : Cell) → Stored c → of_text (to_text c) ≡ Some (norm c)
  -- what is read is stored, and is its own normal form
  pub stored : (s : List ℕ) (c : Cell) → IsUtf8 s → of_text s ≡ Some c → Stored c
  pub normal : (s : List ℕ) (c : Cell) → of_text s ≡ Some c → norm c ≡ c
  pub utf8 : (c : Cell) → Stored c → IsUtf8 (to_text c)

pub read_to_laws : (of_text : List ℕ → Option Cell) (to_text : Cell → List ℕ) (norm : Cell → Cell) (Stored : Cell → Type 0)
    → ReadLaws of_text to_text norm Stored → SpellingLaws (read_to of_text to_text norm Stored)
read_to_laws of_text to_text norm Stored own = record {
  back = λ c p q. own.reads c p;
  one = λ s c x h k. same_Some c x (sym h ∙ k);
  again = λ c p. own.normal (to_text c) (norm c) (own.reads c p);
  stored_norm = λ c p. own.stored (to_text c) (norm c) (own.utf8 c p) (own.reads c p);
  readable_norm = λ c p q. tt;
  utf8 = own.utf8;
  spelled_stored = own.stored;
  spelled_readable = λ s c utf8 h. tt;
  spelled_written = λ s c utf8 h. ap to_text (sym (own.normal s c h));
  decide = λ s. told (of_text s);
}

-- what it owes where each value is its own normal form
pub record WordLaws (of_text : List ℕ → Option Cell) (to_text : Cell → List ℕ) (Stored : Cell → Type 0) : Type 0 where
  -- a stored value is read from its written text
  pub reads : (c : Cell) → Stored c → of_text (to_text c) ≡ Some c
  -- what is read is stored
  pub stored : (s : List ℕ) (c : Cell) → IsUtf8 s → of_text s ≡ Some c → Stored c
  pub utf8 : (c : Cell) → Stored c → IsUtf8 (to_text c)

pub read_as_laws : (of_text : List ℕ → Option Cell) (to_text : Cell → List ℕ) (Stored : Cell → Type 0) → WordLaws of_text to_text Stored → SpellingLaws (read_as of_text to_text Stored)
read_as_laws of_text to_text Stored own =
    read_to_laws of_text to_text (λ c. c) Stored (record { reads = own.reads; stored = own.stored; normal = λ s c h. refl; utf8 = own.utf8 })

-- ---- enumerations

module _ {V : Type 0} (lookup : List ℕ → Option V) (word : V → List ℕ) where
  abbrev reads_word : List ℕ → Option Cell
  reads_word s = option_map (word_cell word) (lookup s)

  variant : (P : Cell → Type 0) → (o : Option V) (c : Cell) → ((v : V) → P (word_cell word v)) → option_map (word_cell word) o ≡ Some c → P c
  variant P None c f e = absurd (cc)
  variant P (Some v) c f e = subst P (same_Some (word_cell word v) c e) (f v)

  pub enumeration_laws : ((v : V) → lookup (word v) ≡ Some v) → ((v : V) → IsUtf8 (word v)) → SpellingLaws (enumeration lookup word)
  enumeration_laws back utf8 =
      let reads_back : (v : V) → reads_word (word v) ≡ Some (word_cell word v) = λ v. ap (option_map (word_cell word)) (back v) in
      read_as_laws reads_word word_of (IsWord word) (record {
        reads = λ c p. subst (λ x. reads_word (word_of x) ≡ Some x) p.1 (reads_back p.0);
        stored = λ s c u e. variant (IsWord word) (lookup s) c (λ v. (v, refl)) e;
        utf8 = λ c p. subst (λ x. IsUtf8 (word_of x)) p.1 (utf8 p.0);
      })
