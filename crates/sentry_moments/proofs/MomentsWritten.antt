-- Moments are written as numbers where they have no nanoseconds, and else as texts.
use Rattle.std.proofs.Common.{◌≡◌, ◌==◌, ◌^◌, ℕ, false, Result, Ok, Err, OnOk, sym, refl, ◌∙◌, subst, arith, eq-eqb}
use Rattle.std.specs.Prelude.{IfOk}
use Rattle.std.specs.Fmt.{decimal}
use Rattle.std.proofs.lemmas.Bool.Decides.{nat_tests}
use Rattle.json.specs.Token.{Token}
use Rattle.json.specs.Written.{Written, Writes}
use Rattle.serde_json.specs.Data.{Data, number, string, unsigned}
use Rattle.serde_json.specs.View.{view}
use Rattle.serde_json.specs.declared.value.Value.{Value}
use Rattle.sentry_tables.specs.Cells.{natural_cell}
use Rattle.sentry_tables.specs.Kinds.{unsigned_kind}
use Rattle.sentry_tables.specs.Writes.{written, WritesTree}
use Rattle.sentry_tables.proofs.Tokens.{u64_wrote}
use Rattle.sentry_moments.specs.MomentForms.{rfc3339_kind, seconds_kind}
use Rattle.sentry_moments.specs.Moments.{moment_cell}
use Rattle.sentry_moments.specs.MomentTexts.{rfc3339_text}
use Rattle.sentry_moments.specs.declared.moment.Moment.{Moment}
use Rattle.sentry_moments.proofs.Choices.{if_true, if_false}

is_not_zero : (n : ℕ) → (n ≡ 0 → ⊥) → (n == 0) ≡ false
is_not_zero n h = grind (arith, nat_tests)

-- the tree without nanoseconds, and the tree with some
whole : (m : Moment) → m.nanos ≡ 0 → written seconds_kind (moment_cell m) ≡ written (unsigned_kind (2 ^ 64)) (natural_cell m.secs)
unfolding written
whole m none = if_true (m.nanos == 0) (number (unsigned m.secs)) (string (rfc3339_text m.secs m.nanos)) (eq-eqb m.nanos 0 none)

part : (m : Moment) → (m.nanos ≡ 0 → ⊥) → written seconds_kind (moment_cell m) ≡ written rfc3339_kind (moment_cell m)
unfolding written
part m some = if_false (m.nanos == 0) (number (unsigned m.secs)) (string (rfc3339_text m.secs m.nanos)) (is_not_zero m.nanos some)

number_is : (n : ℕ) → number (unsigned n) ≡ written (unsigned_kind (2 ^ 64)) (natural_cell n)
unfolding written
number_is n = refl

pub whole_tree : (m : Moment) (d : Data) → d ≡ number (unsigned m.secs) → m.nanos ≡ 0 → d ≡ written seconds_kind (moment_cell m)
whole_tree m d is none = is ∙ number_is m.secs ∙ sym (whole m none)

pub part_tree : {E : Type 0} (m : Moment) (r : Result Value E) → IfOk r (λ t. view t ≡ written rfc3339_kind (moment_cell m)) → (m.nanos ≡ 0 → ⊥) → IfOk r (λ t. view t ≡ written seconds_kind (moment_cell m))
part_tree m (Ok t) is some = is ∙ sym (part m some)
part_tree m (Err e) is some = tt

pub whole_wrote : {E : Type 0} (m : Moment) (r : Result (Unit {0}) E) (old new : Written) → Writes r old new (Token.number (decimal m.secs)) → m.nanos ≡ 0 → OnOk r (WritesTree (written seconds_kind (moment_cell m)) old new)
whole_wrote m r old new w none = subst (λ d. OnOk r (WritesTree d old new)) (sym (whole m none)) (u64_wrote m.secs r old new w)

pub part_wrote : {E : Type 0} (m : Moment) (r : Result (Unit {0}) E) (old new : Written) → OnOk r (WritesTree (written rfc3339_kind (moment_cell m)) old new) → (m.nanos ≡ 0 → ⊥) → OnOk r (WritesTree (written seconds_kind (moment_cell m)) old new)
part_wrote m r old new w some = subst (λ d. OnOk r (WritesTree d old new)) (sym (part m some)) w
