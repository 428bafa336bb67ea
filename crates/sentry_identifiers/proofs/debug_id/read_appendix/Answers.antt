use Rattle.std.proofs.Common.{ℕ, List, ◌∷◌, sym, ap, ◌∙◌, arith, lit<, rules}
use Rattle.std.proofs.lemmas.Str.Pattern.{starts_char}
use Rattle.sentry_text.proofs.NumberTexts.{no_plus}
use Rattle.sentry_identifiers.proofs.DebugIds.{no_tail, no_hyphen, digits_refused, number_answered}
use Rattle.std.proofs.lemmas.Bool.{true≢false}
use Rattle.sentry_identifiers.proofs.debug_id.read_appendix.Goals as goal
use Rattle.sentry_identifiers.proofs.debug_id.read_appendix.Goals.{then-digits-gt8-via-then-digits-gt8, then-digits-gt8-via-else-digits-gt8+then-starts_with}

pub returns-then-is_empty : goal.returns-then-is_empty
returns-then-is_empty c = no_tail c.args.tail.now (search rules)

pub returns-else-is_empty : goal.returns-else-is_empty
returns-else-is_empty c = no_hyphen c.args.tail.now (search rules) c.in_default.ensures.cases

pub returns-then-digits-gt8 : goal.returns-then-digits-gt8
returns-then-digits-gt8 c =
    let h = c.in-Some.ensures.cases in
    digits_refused c.args.tail.now c.in-Some.digits.now (h.1.1 ∙ ap (λ (t : List ℕ). 45 ∷ t) (sym h.2))
    (elim c.then-digits-gt8.branch [
      | then-digits-gt8-via-then-digits-gt8 w ↦ λ fits. omega (arith, fits.1, w.if-digits-gt8.true)
      | then-digits-gt8-via-else-digits-gt8+then-starts_with w ↦ λ fits. no_plus 16 c.in-Some.digits.now (omega arith) fits.0 ((starts_char 43 c.in-Some.digits.now w.starts_with.result w.starts_with.ensures.cases (lit< tt) (lit< tt)).0 w.if-starts_with.true)
    ])

pub returns : goal.returns
returns c =
    let h = c.in-Some.ensures.cases in
    let plain = starts_char 43 c.in-Some.digits.now c.starts_with.result c.starts_with.ensures.cases (lit< tt) (lit< tt) in
    c.ok.ensures.value
    ∙ number_answered c.args.tail.now c.in-Some.digits.now c.from_str_radix.result (h.1.1 ∙ ap (λ (t : List ℕ). 45 ∷ t) (sym h.2)) (omega (arith, c.if-digits-gt8.false))
    (λ e. true≢false (sym (plain.1 e) ∙ c.if-starts_with.false)) c.from_str_radix.ensures.value
