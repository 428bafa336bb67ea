-- Addresses in trees are lawful, and what their reader and writer answer.
use Rattle.std.proofs.Common.{◌≡◌, ◌<◌, ◌^◌, ◌-◌, ℕ, zero, suc, ℤ, pos, negsuc, List, false, Option, Some, None, option_map, Result, OnOk, inl, inr, refl, sym, ap, subst, ◌∙◌, arith}
use Rattle.std.specs.Prelude.{option_and_then}
use Rattle.std.specs.Str.{IsAscii}
use Rattle.std.specs.Int.{w64, cast_unsigned}
use Rattle.std.specs.Fmt.{digits}
use Rattle.std.proofs.lemmas.Option.{same_Some}
use Rattle.std.proofs.lemmas.Fmt.{digits_is_IsNumeral}
use Rattle.std.proofs.lemmas.Str.{IsUtf8-from_ascii}
use Rattle.json.specs.Token.{Token}
use Rattle.json.specs.Written.{Written, Writes}
use Rattle.serde_json.specs.Data.{Num, unsigned, negative, float, Data, number, string}
use Rattle.serde_json.specs.Find.{as_str, as_number, as_u64, as_i64}
use Rattle.sentry_json.specs.Sound.{IsSound, IsWholeNumber}
use Rattle.sentry_tables.specs.Cell.{Cell, whole}
use Rattle.sentry_tables.specs.Written.{is_null}
use Rattle.sentry_tables.specs.Basic.{IsBelow}
use Rattle.sentry_tables.specs.Lawful.{ScalarLaws, RefusesNull, IsNormal}
use Rattle.sentry_tables.proofs.Basic.{ReaderLaws, lawful_reader, reader_refuses_null}
use Rattle.sentry_tables.specs.Cells.{natural_cell}
use Rattle.sentry_tables.specs.Reading.{Shown, Refused}
use Rattle.sentry_tables.specs.Writes.{written, WritesTree}
use Rattle.sentry_tables.proofs.Tokens.{string_wrote}
use Rattle.sentry_text.specs.Address.{IsAddress, address_of, address_text}
use Rattle.sentry_text.specs.AddressTree.{number_address, address_in, address_tree, address_scalar, address_kind}
use Rattle.sentry_text.proofs.Addresses.{address_of_iff, written_address}
use Rattle.sentry_text.proofs.Bounds.{digits_small}

-- ---- the written text is ASCII

text_ascii : (n : ℕ) → n < 2 ^ 64 → IsAscii (address_text n)
text_ascii n small zero = omega arith
text_ascii n small (suc zero) = omega arith
text_ascii n small (suc (suc i)) = digits_small (digits 16 false n) (digits_is_IsNumeral 16 false (omega arith) (omega arith) n (omega arith)).0.1 i

-- ---- cells of whole numbers below 2^64

-- what is stored is a number
held : (P : Cell → Type 0) → ((n : ℕ) → n < 2 ^ 64 → P (natural_cell n)) → (c : Cell) → IsBelow (2 ^ 64) c → P c
held P f (whole (pos n)) p = f n p
held P f (whole (negsuc n)) p = absurd p
held P f _ p = absurd p

-- and so is what a number is read as
below : (o : Option ℕ) (c : Cell) → ((n : ℕ) → o ≡ Some n → n < 2 ^ 64) → option_map natural_cell o ≡ Some c → IsBelow (2 ^ 64) c
below None c f e = absurd (cc)
below (Some n) c f e = subst (IsBelow (2 ^ 64)) (same_Some (natural_cell n) c e) (f n refl)

-- ---- what is shown is below 2^64

text_below : (n : ℕ) (text : List ℕ) → IsAddress text n → n < 2 ^ 64
text_below n text (inl h) = h.2.small
text_below n text (inr h) = h.small

number_below : (x : Num) (n : ℕ) → IsWholeNumber x → number_address x ≡ Some n → n < 2 ^ 64
number_below (unsigned m) n h e = subst (λ k. k < 2 ^ 64) (same_Some m n e) h
number_below (negative (pos m)) n h e = absurd h
number_below (negative (negsuc m)) n h e = subst (λ k. k < 2 ^ 64) (same_Some (2 ^ 64 - suc m) n e) (omega arith)
number_below (float x) n h e = absurd h

shown_below : (d : Data) (c : Cell) → IsSound d → option_map natural_cell (address_in d) ≡ Some c → IsBelow (2 ^ 64) c
shown_below (string s) c sound e = below (address_of s) c (λ n is. text_below n s ((address_of_iff s n).0 is)) e
shown_below (number x) c sound e = below (number_address x) c (λ n is. number_below x n sound is) e
shown_below _ c sound e = absurd (cc)

-- ---- the laws

abbrev reads_address : Data → Option Cell
reads_address d = option_map natural_cell (address_in d)

address_reads : ReaderLaws reads_address address_tree (IsBelow (2 ^ 64))
address_reads = record {
  back = held (λ c. reads_address (address_tree c) ≡ Some c) (λ n small. ap (option_map natural_cell) (written_address n small));
  sound = held (λ c. IsSound (address_tree c)) (λ n small. IsUtf8-from_ascii (address_text n) (text_ascii n small));
  not_null = held (λ c. is_null (address_tree c) ≡ false) (λ n small. refl);
  shown = shown_below;
}

pub address_laws : ScalarLaws address_scalar
address_laws = lawful_reader reads_address address_tree (IsBelow (2 ^ 64)) address_reads

pub address_refuses_null : RefusesNull address_kind
address_refuses_null = reader_refuses_null reads_address address_tree (IsBelow (2 ^ 64)) refl

-- each address is its own normal form, as a default of a row has to be
pub address_is_normal : (n : ℕ) → n < 2 ^ 64 → IsNormal address_kind (natural_cell n)
address_is_normal n small = (small, tt, tt, refl)

-- ---- reading

pub text_address : (s : List ℕ) (d : Data) → as_str d ≡ Some s → address_of s ≡ address_in d
text_address s (string t) e = ap address_of (same_Some s t (sym e))
text_address s _ e = absurd (cc)

pub natural_address : (n : ℕ) (d : Data) → option_and_then as_u64 (as_number d) ≡ Some n → Some n ≡ address_in d
natural_address n (number (unsigned m)) e = sym e
natural_address n (number (negative z)) e = absurd (cc)
natural_address n (number (float x)) e = absurd (cc)
natural_address n _ e = absurd (cc)

pub signed_address : (z : ℤ) (d : Data) → option_and_then as_u64 (as_number d) ≡ None → option_and_then as_i64 (as_number d) ≡ Some z → Some (cast_unsigned w64 z) ≡ address_in d
signed_address z (number (unsigned m)) none e = absurd (cc)
signed_address z (number (negative y)) none e = ap (λ k. Some (cast_unsigned w64 k)) (same_Some z y (sym e))
signed_address z (number (float x)) none e = absurd (cc)
signed_address z _ none e = absurd (cc)

pub no_address : (d : Data) → as_str d ≡ None → option_and_then as_u64 (as_number d) ≡ None → option_and_then as_i64 (as_number d) ≡ None → None ≡ address_in d
no_address (string t) text natural signed = absurd (cc)
no_address (number (unsigned m)) text natural signed = absurd (cc)
no_address (number (negative z)) text natural signed = absurd (cc)
no_address (number (float x)) text natural signed = refl
no_address _ text natural signed = refl

pub address_found : (n : ℕ) (d : Data) → Some n ≡ address_in d → Shown address_kind d (natural_cell n)
unfolding Shown
address_found n d e now = ap (option_map natural_cell) (sym e)

pub address_refused : (d : Data) → None ≡ address_in d → Refused address_kind d
unfolding Refused
address_refused d e now c h = none_some c (ap (option_map natural_cell) e ∙ h)
  where
    none_some : (c : Cell) → None ≡ Some c → ⊥
    none_some c e = cc

-- ---- writing

pub address_tree_is : (n : ℕ) (d : Data) (s : List ℕ) → d ≡ string s → s ≡ address_text n → d ≡ written address_kind (natural_cell n)
unfolding written
address_tree_is n d s is e = is ∙ ap string e

pub address_wrote : {E : Type 0} (n : ℕ) (s : List ℕ) (r : Result (Unit {0}) E) (old new : Written) → s ≡ address_text n → Writes r old new (Token.string s)
    → OnOk r (WritesTree (written address_kind (natural_cell n)) old new)
unfolding written
address_wrote n s r old new is h = string_wrote (address_text n) r old new (subst (λ t. Writes r old new (Token.string t)) is h)
