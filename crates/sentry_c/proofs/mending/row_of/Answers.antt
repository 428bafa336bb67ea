use Rattle.std.proofs.Common.{List, ℕ, refl, subst}
use Rattle.sentry_c.specs.Misfits.{IsGrown}
use Rattle.sentry_c.specs.Texts.{IsAt}
use Rattle.sentry_c.proofs.Rowed.{error_kept, grown_by, grown_on, stands_on}
use Rattle.sentry_c.proofs.mending.row_of.Goals as goal

pub returns-clause-tells : goal.returns-clause-tells
returns-clause-tells c =
    let first = c.push_text.new.texts.items in
    let second = c.push_text-2.new.texts.items in
    let third = c.push_text-3.new.texts.items in
    let all = c.push_place.new.texts.items in
    let one : IsGrown third all = c.in_ok-misfit.ensures.grown in
    let two : IsGrown second all = grown_on second third all (grown_by second third _ c.in_ok-instead.ensures.grown) one in
    let three : IsGrown first all = grown_on first second all (grown_by first second _ c.in_ok-word.ensures.grown) two in
    record {
      item = refl;
      error = error_kept c.args.item.now _ c.error_of.ensures;
      word = subst (λ (part : List ℕ). IsAt all c.in_ok-word.word part) c.word_of.ensures (stands_on second all c.in_ok-word.word _ two c.in_ok-word.ensures.place);
      start = refl;
      end = refl;
      repair = c.number_of_repair.ensures;
      place = c.in_ok-misfit.ensures.tells;
      instead = subst (λ (part : List ℕ). IsAt all c.in_ok-instead.instead part) c.deref.ensures.value (stands_on third all c.in_ok-instead.instead _ one c.in_ok-instead.ensures.place);
      message = (c.as_bytes.result.now, stands_on first all c.in_ok-message.message _ three c.in_ok-message.ensures.place);
    }
