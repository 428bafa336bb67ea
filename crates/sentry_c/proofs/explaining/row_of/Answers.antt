use Rattle.std.proofs.Common.{List, ℕ, refl, subst}
use Rattle.sentry_c.specs.Misfits.{IsGrown}
use Rattle.sentry_c.specs.Texts.{IsAt}
use Rattle.sentry_c.proofs.Rowed.{grown_by, grown_on, stands_on, status_kept}
use Rattle.sentry_c.proofs.explaining.row_of.Goals as goal

pub returns-clause-tells : goal.returns-clause-tells
returns-clause-tells c =
    let first = c.push_text.new.texts.items in
    let second = c.push_text-2.new.texts.items in
    let all = c.push_cause.new.texts.items in
    let one : IsGrown second all = c.in_ok-cause.ensures.grown in
    let two : IsGrown first all = grown_on first second all (grown_by first second _ c.in_ok-word.ensures.grown) one in
    record {
      item = c.number_of_item.ensures;
      start = refl;
      end = refl;
      error = status_kept c.args.fault.now.error _ c.status_of_envelope_error.ensures.status;
      cause = c.in_ok-cause.ensures.tells;
      word = subst (λ (part : List ℕ). IsAt all c.in_ok-word.word part) c.deref.ensures.value (stands_on second all c.in_ok-word.word _ one c.in_ok-word.ensures.place);
      message = (c.as_bytes.result.now, stands_on first all c.in_ok-message.message _ two c.in_ok-message.ensures.place);
    }
