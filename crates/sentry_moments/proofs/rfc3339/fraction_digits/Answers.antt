use Rattle.std.proofs.Common.{arith, ◌≡◌, ◌<◌, ℕ, ◌+◌, take, length, sym, ap, ◌∙◌, get_or}
use Rattle.std.specs.Char.{is_ascii_digit}
use Rattle.std.specs.List.{prefix_len}
use Rattle.std.proofs.lemmas.List.Sums.{prefix_len-drop_yes, prefix_len-le-length}
use Rattle.sentry_json.proofs.Integers.{value_of_digit}
use Rattle.sentry_moments.specs.Rfc3339.{nanoseconds}
use Rattle.sentry_moments.proofs.FractionDigits.{next_place, next_digits, worth_is, nine_of}
use Rattle.sentry_moments.proofs.Rfc3339Texts.{nanoseconds_below}
use Rattle.sentry_moments.proofs.rfc3339.fraction_digits.Goals as goal

pub loop-place-preserved : goal.loop-place-preserved
loop-place-preserved c =
    let t = c.args.text.now in
    let p = c.loop-place.place in
    let inside : p < length t = omega arith in
    let is = sym c.if-not-is_ascii_digit.ensures.value in
    let digits = next_digits t p inside c.loop-place.invariant.digits is in
    let place = next_place t p (omega arith) inside in
    let worth = worth_is p (omega arith) in
    let digit = value_of_digit (get_or t p 0) c.if-not-is_ascii_digit.ensures.cases in
    record {
      within = omega arith;
      digits = digits;
      run = omega (arith, c.loop-place.invariant.run, prefix_len-drop_yes is_ascii_digit t p 0 inside is);
      value = rw (c.from.ensures, ← digit, worth, c.loop-place.invariant.value) (sym place);
      bound = rw (c.from.ensures, ← digit, worth, c.loop-place.invariant.value, ← place) (nanoseconds_below (take (p + 1) t) digits);
    }

pub returns-clause-value : goal.returns-clause-value
returns-clause-value c =
    let t = c.args.text.now in
    let nine : c.loop-place.place ≡ 9 = omega arith in
    c.loop-place.invariant.value ∙ ap (λ (k : ℕ). nanoseconds (take k t)) nine
    ∙ nine_of t (prefix_len is_ascii_digit t) (prefix_len-le-length is_ascii_digit t) (omega (arith, c.loop-place.invariant.run))
