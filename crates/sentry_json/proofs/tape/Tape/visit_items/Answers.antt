use Rattle.std.proofs.Common.{rules, ◌≡◌, ◌∷◌, [], ◌++◌, false, refl, ap, ◌∙◌, arith, subst, if◌then◌else◌}
use Rattle.sentry_json.specs.Tokens.{value_of, tokens_value}
use Rattle.sentry_json.proofs.Lists.{all_mean, means_next, visited_next}
use Rattle.sentry_json.proofs.SoFar.{begins, empty, ends, next_value, skipped, value_before}
use Rattle.sentry_json.proofs.TokenLists.{items_end}
use Rattle.sentry_json.proofs.tape.Tape.visit_items.Goals as goal

pub returns-in-Some : goal.returns-in-Some
returns-in-Some g c = ([], [], items_end, empty false c.args.inside.text.now c.in-Some.rest.text.now 126 c.in-Some.ensures.follows (omega arith), refl)

pub loop-rest-init : goal.loop-rest-init
loop-rest-init g c =
    let inside = c.args.inside.text.now in
    ([], [], skipped false false false inside inside c.skip_space-left.result.text.now [] 125 c.skip_space-left.ensures.spaced (begins false false inside 125), λ ts. refl, refl)

pub returns-then-not-comma : goal.returns-then-not-comma
returns-then-not-comma g c =
    let i = c.loop-rest.invariant in
    let v = c.in_ok-rest.ensures.spelled in
    let end = c.in_ok-comma.ensures.follows in
    let inside = c.args.inside.text.now in
    let rest = c.in_ok-rest.rest.text.now in
    let next = c.in_ok-comma.next.text.now in
    let cleared : c.clear.new.self.items ≡ [] = search rules in
    let node : c.new.result.tokens.now ≡ c.take_value.new.self.tokens.items = search rules in
    let value : tokens_value c.new.result.tokens.now ≡ value_of v.0 v.1 = ap tokens_value (node ∙ v.2 ∙ ap (λ ts. ts ++ (v.0 ∷ v.1)) cleared) in
    let taken = subst (λ d. g.T.Visitor.visits c.loop-rest.visitor d c.visit.new.self) value (c.in-Ok.ensures c.if-not-accepted.false) in
    let close : end.0 ≡ 93 ∷ next = end.2 ∙ ap (λ is. (if is then 44 else 93) ∷ next) c.if-not-comma.true in
    let all = i.0 ++ (v.0 ∷ v.1) in
    let items = i.1 ++ value_of v.0 v.1 ∷ [] in (
      all,
      items,
      all_mean all items (means_next i.0 i.1 v.0 v.1 v.3.closed i.3),
      ends false false inside c.loop-rest.left.text.now end.0 next i.0 v.0 v.1 125 126 refl i.2 (value_before c.loop-rest.left.text.now rest end.0 v.0 v.1 125 v.3 end.1) close (omega arith),
      visited_next g.T.Visitor.visits c.args.visitor.now i.1 (value_of v.0 v.1) c.loop-rest.visitor c.visit.new.self i.4 taken,
    )

pub loop-rest-smaller : goal.loop-rest-smaller
loop-rest-smaller g c = omega (arith, c.in_ok-rest.ensures.shorter, c.in_ok-comma.ensures.shorter, c.skip_space-left-in-loop-rest.ensures.within)

pub loop-rest-preserved : goal.loop-rest-preserved
loop-rest-preserved g c =
    let i = c.loop-rest.invariant in
    let v = c.in_ok-rest.ensures.spelled in
    let comma = c.in_ok-comma.ensures.follows in
    let inside = c.args.inside.text.now in
    let rest = c.in_ok-rest.rest.text.now in
    let next = c.in_ok-comma.next.text.now in
    let cleared : c.clear.new.self.items ≡ [] = search rules in
    let node : c.new.result.tokens.now ≡ c.take_value.new.self.tokens.items = search rules in
    let value : tokens_value c.new.result.tokens.now ≡ value_of v.0 v.1 = ap tokens_value (node ∙ v.2 ∙ ap (λ ts. ts ++ (v.0 ∷ v.1)) cleared) in
    let taken = subst (λ d. g.T.Visitor.visits c.loop-rest.visitor d c.visit.new.self) value (c.in-Ok.ensures c.if-not-accepted.false) in
    let is_comma : comma.0 ≡ 44 ∷ next = comma.2 ∙ ap (λ is. (if is then 44 else 93) ∷ next) c.if-not-comma.false in
    let done = i.0 ++ (v.0 ∷ v.1) in (
      done,
      i.1 ++ value_of v.0 v.1 ∷ [],
      skipped false false false inside next c.skip_space-left-in-loop-rest.result.text.now done 125 c.skip_space-left-in-loop-rest.ensures.spaced
          (next_value false false inside c.loop-rest.left.text.now comma.0 next i.0 v.0 v.1 125 refl i.2 (value_before c.loop-rest.left.text.now rest comma.0 v.0 v.1 125 v.3 comma.1) is_comma),
      means_next i.0 i.1 v.0 v.1 v.3.closed i.3,
      visited_next g.T.Visitor.visits c.args.visitor.now i.1 (value_of v.0 v.1) c.loop-rest.visitor c.visit.new.self i.4 taken,
    )
