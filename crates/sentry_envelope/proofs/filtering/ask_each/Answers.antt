use Rattle.std.proofs.Common.{rules, [], ◌∷◌, append_assoc, append-nil, sym, ◌∙◌}
use Rattle.std.specs.Vec.Iter.{into_iter_items}
use Rattle.std.proofs.lemmas.List.{nil_from_length}
use Rattle.sentry_envelope.proofs.FilterLemmas.{asks_none, asks_yes, asks_no}
use Rattle.sentry_envelope.proofs.filtering.ask_each.Goals as goal

pub loop-item-preserved-then-filter : goal.loop-item-preserved-then-filter
loop-item-preserved-then-filter g c = record {
  callable = search rules;
  fewer = search rules;
  room = search rules;
  goes_on = λ last left rest.
      let asked = asks_yes _ _ c.in-Some.item _ _ _ _ _ c.if-filter.ensures rest in
      let all = c.loop-item.invariant.goes_on last (c.in-Some.item ∷ left) (rw c.in-Some.ensures.steps.0 asked) in
      rw (c.push.ensures.items, c.unwrap.ensures, append_assoc) all;
}

pub loop-item-preserved : goal.loop-item-preserved
loop-item-preserved g c = record {
  callable = search rules;
  fewer = search rules;
  room = search rules;
  goes_on = λ last left rest.
      let asked = asks_no _ _ c.in-Some.item _ _ _ _ _ _ c.if-filter.ensures c.on_filtered.ensures rest in
      c.loop-item.invariant.goes_on last left (rw c.in-Some.ensures.steps.0 asked);
}

pub returns-clause-asks : goal.returns-clause-asks
returns-clause-asks g c =
    let iterator = c.loop-item.item-iterator in
    let none = nil_from_length (into_iter_items iterator) (sym iterator.rest.ok.0 ∙ c.in-None.ensures.steps.0) in
    rw append-nil at (c.loop-item.invariant.goes_on c.loop-item.filter [] (rw none (asks_none _ _ _)))
