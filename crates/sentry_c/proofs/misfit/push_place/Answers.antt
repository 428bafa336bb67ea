use Rattle.std.proofs.Common.{List, ℕ, refl, subst}
use Rattle.sentry_c.specs.Misfits.{IsGrown}
use Rattle.sentry_c.specs.Texts.{IsAt}
use Rattle.sentry_c.proofs.Rowed.{grown_by, grown_on, stands_on}
use Rattle.sentry_c.proofs.misfit.push_place.Goals as goal

pub returns-clause-tells : goal.returns-clause-tells
returns-clause-tells c =
    let first = c.push_text.new.texts.items in
    let second = c.push_text-2.new.texts.items in
    let third = c.push_text-3.new.texts.items in
    let all = c.push_text-4.new.texts.items in
    let one : IsGrown third all = grown_by third all _ c.in_ok-value.ensures.grown in
    let two : IsGrown second all = grown_on second third all (grown_by second third _ c.in_ok-found.ensures.grown) one in
    let three : IsGrown first all = grown_on first second all (grown_by first second _ c.in_ok-wanted.ensures.grown) two in
    record {
      start = refl;
      end = refl;
      path = subst (λ (part : List ℕ). IsAt all c.in_ok-path.path part) c.deref.ensures.value (stands_on first all c.in_ok-path.path _ three c.in_ok-path.ensures.place);
      wanted = (c.as_bytes.result.now, stands_on second all c.in_ok-wanted.wanted _ two c.in_ok-wanted.ensures.place);
      found = (c.as_bytes-2.result.now, stands_on third all c.in_ok-found.found _ one c.in_ok-found.ensures.place);
      value = subst (λ (part : List ℕ). IsAt all c.in_ok-value.value part) c.deref-2.ensures.value c.in_ok-value.ensures.place;
    }
