-- What trees show as Rust's own types.
use Rattle.std.proofs.Common.{◌≡◌, ◌^◌, ◌<◌, ℕ, List, Option, Some, None, option_map, option_and_then, refl, sym, ap, subst, ◌∙◌, Bool, true, false, lt-ltb, cond, le-ltb, ltb-false, arith, ◌≤◌, SFits, w32}
use Rattle.std.proofs.lemmas.Option.{none-some, same_Some}
use Rattle.serde_json.specs.Data.{Num, unsigned, negative, float, Data, Items}
use Rattle.serde_json.specs.Find.{as_array, as_str, as_bool, as_number, as_u64, as_i64}
use Rattle.sentry_json.specs.Sound.{IsRanged}
use Rattle.sentry_tables.specs.Cell.{Cell, text, truth, whole, any}
use Rattle.std.specs.Prelude.{pos, negsuc, ℤ, IfSome, nat_lt, Result, ok_or}
use Rattle.sentry_tables.specs.Basic.{whole_below, signed_at, IsWithin, pair_of}
use Rattle.sentry_tables.specs.Cells.{natural_cell, pair_cell}
use Rattle.sentry_tables.specs.Kinds.{text_kind, truth_kind, unsigned_kind, signed_kind, pair_kind, any_kind}
use Rattle.sentry_tables.specs.Reading.{Shown, Refused, Reads}
use Rattle.sentry_tables.specs.declared.error.TreeError.{TreeError}
use Rattle.sentry_tables.specs.declared.error.TreeError.TheVariants.{Misfit}

pub text_refused : (d : Data) → as_str d ≡ None → Refused text_kind d
unfolding Refused
text_refused d e now c h = none-some c (sym (ap (option_map text) e) ∙ h)

pub text_shown : (s : List ℕ) (d : Data) → as_str d ≡ Some s → Shown text_kind d (text s)
unfolding Shown
text_shown s d e now = ap (option_map text) e

pub truth_refused : (d : Data) → as_bool d ≡ None → Refused truth_kind d
unfolding Refused
truth_refused d e now c h = none-some c (sym (ap (option_map truth) e) ∙ h)

pub truth_shown : (b : Bool) (d : Data) → as_bool d ≡ Some b → Shown truth_kind d (truth b)
unfolding Shown
truth_shown b d e now = ap (option_map truth) e

pub whole_refused : (bound : ℕ) (d : Data) → option_and_then as_u64 (as_number d) ≡ None → Refused (unsigned_kind bound) d
unfolding Refused
whole_refused bound d e now c h = none-some c (sym (ap (option_and_then (whole_below bound)) e) ∙ h)

pub whole_read : {A : Type 0} (number : A → ℕ) (bound n : ℕ) (d : Data) (o : Option A) (r : Result A TreeError) → option_and_then as_u64 (as_number d) ≡ Some n → IfSome o (λ x. (number x ≡ n) × (n < bound)) → (o ≡ None → n < bound → ⊥) → r ≡ ok_or o Misfit → Reads (unsigned_kind bound) (λ x. natural_cell (number x)) d r
unfolding Shown Refused
whole_read number bound n d (Some x) r e held large is = rw (is, held.0) (λ now. ap (option_and_then (whole_below bound)) e ∙ ap (λ b. cond b (Some (whole (pos n))) None) (lt-ltb n bound held.1))
whole_read number bound n d None r e held large is =
    let least : n < bound → ⊥ = large refl in
    rw is (λ now c h. none-some c (sym (ap (option_and_then (whole_below bound)) e ∙ ap (λ b. cond b (Some (whole (pos n))) None) (le-ltb n bound (omega arith))) ∙ h))

pub any_shown : (d e : Data) → e ≡ d → Shown any_kind d (any e)
unfolding Shown
any_shown d e same now = ap any (sym same)

-- ---- whole numbers with a sign

pub signed_refused : (bound : ℕ) (d : Data) → option_and_then (signed_at bound) (as_number d) ≡ None → Refused (signed_kind bound) d
unfolding Refused
signed_refused bound d e now c h = none-some c (sym e ∙ h)

pub signed_shown : (bound : ℕ) (z : ℤ) (d : Data) → option_and_then (signed_at bound) (as_number d) ≡ Some (whole z) → Shown (signed_kind bound) d (whole z)
unfolding Shown
signed_shown bound z d e now = e

pub signed_read : (bound : ℕ) (d : Data) (o : Option ℤ) (r : Result ℤ TreeError) → option_map whole o ≡ option_and_then (signed_at bound) (as_number d) → r ≡ ok_or o Misfit → Reads (signed_kind bound) whole d r
signed_read bound d (Some z) r e is = rw is (signed_shown bound z d (sym e))
signed_read bound d None r e is = rw is (signed_refused bound d (sym e))

chosen : (t : Bool) (c x : Cell) → cond t (Some c) None ≡ Some x → c ≡ x
chosen true c x e = same_Some c x e
chosen false c x e = absurd cc

left_out : (t : Bool) (c : Cell) → cond t (Some c) None ≡ None → t ≡ false
left_out true c e = absurd cc
left_out false c e = refl

-- a number of 64 bits that is within a smaller bound, and one that isn't
module _ (bound : ℕ) (z : ℤ) where
  within_number : (n : Num) → signed_at (2 ^ 63) n ≡ Some (whole z) → IsWithin bound (whole z) → signed_at bound n ≡ Some (whole z)
  within_number (unsigned m) e h =
      let same : whole (pos m) ≡ whole z = chosen _ _ _ e in
      rw (lt-ltb m bound (subst (IsWithin bound) (sym same) h)) (ap Some same)
  within_number (negative (pos m)) e h = absurd cc
  within_number (negative (negsuc m)) e h =
      let same : whole (negsuc m) ≡ whole z = chosen _ _ _ e in
      rw (lt-ltb m bound (subst (IsWithin bound) (sym same) h)) (ap Some same)
  within_number (float x) e h = absurd cc

  outside_number : (n : Num) → signed_at (2 ^ 63) n ≡ Some (whole z) → (IsWithin bound (whole z) → ⊥) → signed_at bound n ≡ None
  outside_number (unsigned m) e h =
      let same : whole (pos m) ≡ whole z = chosen _ _ _ e in
      let large : m < bound → ⊥ = λ l. h (subst (IsWithin bound) same l) in
      rw (le-ltb m bound (omega arith))
  outside_number (negative (pos m)) e h = absurd cc
  outside_number (negative (negsuc m)) e h =
      let same : whole (negsuc m) ≡ whole z = chosen _ _ _ e in
      let large : m < bound → ⊥ = λ l. h (subst (IsWithin bound) same l) in
      rw (le-ltb m bound (omega arith))
  outside_number (float x) e h = absurd cc

  within_option : (o : Option Num) → option_and_then (signed_at (2 ^ 63)) o ≡ Some (whole z) → IsWithin bound (whole z) → option_and_then (signed_at bound) o ≡ Some (whole z)
  within_option None e h = absurd cc
  within_option (Some n) e h = within_number n e h

  outside_option : (o : Option Num) → option_and_then (signed_at (2 ^ 63)) o ≡ Some (whole z) → (IsWithin bound (whole z) → ⊥) → option_and_then (signed_at bound) o ≡ None
  outside_option None e h = refl
  outside_option (Some n) e h = outside_number n e h

no_number : (bound : ℕ) → bound ≤ 2 ^ 63 → (n : Num) → signed_at (2 ^ 63) n ≡ None → signed_at bound n ≡ None
no_number bound most (unsigned m) e = rw (le-ltb m bound (omega (arith, ltb-false m (2 ^ 63) (left_out _ _ e))))
no_number bound most (negative (pos m)) e = refl
no_number bound most (negative (negsuc m)) e = rw (le-ltb m bound (omega (arith, ltb-false m (2 ^ 63) (left_out _ _ e))))
no_number bound most (float x) e = refl

no_option : (bound : ℕ) → bound ≤ 2 ^ 63 → (o : Option Num) → option_and_then (signed_at (2 ^ 63)) o ≡ None → option_and_then (signed_at bound) o ≡ None
no_option bound most None e = refl
no_option bound most (Some n) e = no_number bound most n e

fits_within : (z : ℤ) → SFits w32 z → IsWithin (2 ^ 31) (whole z)
fits_within (pos n) f = f.sfits
fits_within (negsuc n) f = f.sfits

within_fits : (z : ℤ) → IsWithin (2 ^ 31) (whole z) → SFits w32 z
within_fits (pos n) h = record { sfits = h }
within_fits (negsuc n) h = record { sfits = h }

pub i32_shown : (z : ℤ) (d : Data) → option_and_then (signed_at (2 ^ 63)) (as_number d) ≡ Some (whole z) → SFits w32 z → Shown (signed_kind (2 ^ 31)) d (whole z)
i32_shown z d e f = signed_shown (2 ^ 31) z d (within_option (2 ^ 31) z (as_number d) e (fits_within z f))

pub i32_too_wide : (z : ℤ) (d : Data) → option_and_then (signed_at (2 ^ 63)) (as_number d) ≡ Some (whole z) → (SFits w32 z → ⊥) → Refused (signed_kind (2 ^ 31)) d
i32_too_wide z d e wide = signed_refused (2 ^ 31) d (outside_option (2 ^ 31) z (as_number d) e (λ h. wide (within_fits z h)))

pub i32_refused : (d : Data) → option_and_then (signed_at (2 ^ 63)) (as_number d) ≡ None → Refused (signed_kind (2 ^ 31)) d
i32_refused d e = signed_refused (2 ^ 31) d (no_option (2 ^ 31) (omega arith) (as_number d) e)

-- ---- pairs

pub no_pair : (d : Data) → as_array d ≡ None → Refused pair_kind d
unfolding Refused
no_pair d is now c h = none-some c (sym (ap (option_and_then pair_of) is) ∙ h)

pub pair_refused : (d : Data) (ds : Items) (o : Option (ℕ × ℕ)) → as_array d ≡ Some ds → option_map pair_cell o ≡ pair_of ds → o ≡ None → Refused pair_kind d
unfolding Refused
pair_refused d ds o is e none now c h = none-some c (sym (ap (option_and_then pair_of) is ∙ sym e ∙ ap (option_map pair_cell) none) ∙ h)

pub pair_shown : (d : Data) (ds : Items) (o : Option (ℕ × ℕ)) (p : ℕ × ℕ) → as_array d ≡ Some ds → option_map pair_cell o ≡ pair_of ds → o ≡ Some p → Shown pair_kind d (pair_cell p)
unfolding Shown
pair_shown d ds o p is e some now = ap (option_and_then pair_of) is ∙ sym e ∙ ap (option_map pair_cell) some

seen_number : (n : Num) → IsRanged n → option_map whole (as_i64 n) ≡ signed_at (2 ^ 63) n
seen_number (unsigned n) h = chose (nat_lt n (2 ^ 63)) n
  where
    chose : (b : Bool) (n : ℕ) → option_map whole (cond b (Some (pos n)) None) ≡ cond b (Some (whole (pos n))) None
    chose true n = refl
    chose false n = refl
seen_number (negative (pos n)) h = absurd h
seen_number (negative (negsuc n)) h = rw (lt-ltb n (2 ^ 63) h) refl
seen_number (float x) h = refl

seen_option : (o : Option Num) → IfSome o IsRanged → option_map whole (option_and_then as_i64 o) ≡ option_and_then (signed_at (2 ^ 63)) o
seen_option None h = refl
seen_option (Some n) h = seen_number n h

pub signed_seen : (r : Option ℤ) (d : Data) → r ≡ option_and_then as_i64 (as_number d) → IfSome (as_number d) IsRanged → option_map whole r ≡ option_and_then (signed_at (2 ^ 63)) (as_number d)
signed_seen r d e h = ap (option_map whole) e ∙ seen_option (as_number d) h
