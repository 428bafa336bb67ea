-- Severities as whole numbers.
use Rattle.std.proofs.Common.{◌≡◌, ◌&&◌, ℕ, pos, negsuc, Bool, true, false, cond, nat_le, Option, Some, None, option_and_then, refl, sym, ap, ◌∙◌, subst, arith, decimal, Result, OnOk}
use Rattle.std.proofs.lemmas.Bool.{and_parts}
use Rattle.std.proofs.lemmas.Bool.Decides.{nat_tests}
use Rattle.std.proofs.lemmas.Option.{none-some, same_Some}
use Rattle.json.specs.Token.{Token}
use Rattle.json.specs.Written.{Written, Writes}
use Rattle.serde_json.specs.Data.{unsigned, negative, float, Data, number}
use Rattle.serde_json.specs.Find.{as_number, as_u64}
use Rattle.sentry_json.specs.Sound.{IsSound}
use Rattle.sentry_tables.specs.Cell.{Cell, whole}
use Rattle.sentry_tables.specs.Basic.{whole_tree}
use Rattle.sentry_tables.specs.Written.{is_null}
use Rattle.sentry_tables.specs.Lawful.{ScalarLaws, RefusesNull}
use Rattle.sentry_tables.proofs.Basic.{lawful_reader, reader_refuses_null}
use Rattle.sentry_tables.specs.Reading.{Shown, Refused}
use Rattle.sentry_tables.specs.Writes.{written, WritesTree}
use Rattle.sentry_tables.proofs.Tokens.{u8_wrote}
use Rattle.sentry_text.specs.Severity.{IsSeverity, IsSeverityCell, severity_at, severity_scalar, severity_kind}

within : (n : ℕ) → IsSeverity n → (nat_le 1 n && nat_le n 24) ≡ true
within n p = grind (arith, nat_tests, p.0, p.1)

within_true : (n : ℕ) → (nat_le 1 n && nat_le n 24) ≡ true → IsSeverity n
within_true n e = let p = and_parts (nat_le 1 n) (nat_le n 24) e in (grind (arith, nat_tests, p.0), grind (arith, nat_tests, p.1))

outside : (n : ℕ) (b : Bool) → (nat_le 1 n && nat_le n 24) ≡ b → (IsSeverity n → ⊥) → b ≡ false
outside n true e none = absurd (none (within_true n e))
outside n false e none = refl

severity_read : (n : ℕ) → IsSeverity n → severity_at n ≡ Some (whole (pos n))
severity_read n p = ap (λ b. cond b (Some (whole (pos n))) None) (within n p)

not_read : (n : ℕ) → (IsSeverity n → ⊥) → severity_at n ≡ None
not_read n none = ap (λ b. cond b (Some (whole (pos n))) None) (outside n _ refl none)

-- ---- reading

pub severity_shown : (n : ℕ) (d : Data) → option_and_then as_u64 (as_number d) ≡ Some n → IsSeverity n → Shown severity_kind d (whole (pos n))
unfolding Shown
severity_shown n d e p now = ap (option_and_then severity_at) e ∙ severity_read n p

pub whole_outside : (n : ℕ) (d : Data) → option_and_then as_u64 (as_number d) ≡ Some n → (IsSeverity n → ⊥) → Refused severity_kind d
unfolding Refused
whole_outside n d e none now c h = none-some c (sym (ap (option_and_then severity_at) e ∙ not_read n none) ∙ h)

pub not_whole : (d : Data) → option_and_then as_u64 (as_number d) ≡ None → Refused severity_kind d
unfolding Refused
not_whole d e now c h = none-some c (sym (ap (option_and_then severity_at) e) ∙ h)

-- ---- writing

pub severity_wrote : {E : Type 0} (n : ℕ) (r : Result (Unit {0}) E) (old new : Written) → Writes r old new (Token.number (decimal n)) → OnOk r (WritesTree (written severity_kind (whole (pos n))) old new)
unfolding written
severity_wrote n r old new w = u8_wrote n r old new w

-- ---- laws

abbrev severity_of : Data → Option Cell
severity_of d = option_and_then severity_at (option_and_then as_u64 (as_number d))

-- a stored cell is a severity
holds : (P : Cell → Type 0) → ((n : ℕ) → IsSeverity n → P (whole (pos n))) → (c : Cell) → IsSeverityCell c → P c
holds P f (whole (pos n)) p = f n p
holds P f (whole (negsuc n)) p = absurd p
holds P f _ p = absurd p

by_test : (n : ℕ) (b : Bool) (c : Cell) → (nat_le 1 n && nat_le n 24) ≡ b → cond b (Some (whole (pos n))) None ≡ Some c → IsSeverityCell c
by_test n true c e f = subst IsSeverityCell (same_Some (whole (pos n)) c f) (within_true n e)
by_test n false c e f = absurd (cc)

shown : (d : Data) (c : Cell) → IsSound d → severity_of d ≡ Some c → IsSeverityCell c
shown (number (unsigned n)) c h e = by_test n _ c refl e
shown (number (negative z)) c h e = absurd (cc)
shown (number (float x)) c h e = absurd (cc)
shown _ c h e = absurd (cc)

pub severity_laws : ScalarLaws severity_scalar
severity_laws =
    lawful_reader severity_of whole_tree IsSeverityCell (record {
      back = holds (λ c. severity_of (whole_tree c) ≡ Some c) severity_read;
      sound = holds (λ c. IsSound (whole_tree c)) (λ n p. omega (arith, p.0, p.1));
      not_null = holds (λ c. is_null (whole_tree c) ≡ false) (λ n p. refl);
      shown = shown;
    })

pub severity_refuses_null : RefusesNull severity_kind
severity_refuses_null = reader_refuses_null severity_of whole_tree IsSeverityCell refl
