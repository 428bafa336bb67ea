use Rattle.std.proofs.Common.{[], ◌∷◌, ◌++◌, append_assoc, append-nil, ap, sym, subst, ◌∙◌, arith, IsUtf8, string_bytes}
use Rattle.std.proofs.lemmas.Grind.{common_steps}
use Rattle.serde_json.proofs.Views.{Entry}
use Rattle.sentry_tables.proofs.Soundness.{item_sound, member_sound, members_sound}
use Rattle.sentry_tables.proofs.tree.+has_float.Goals as goal

pub items_have_float-loop-item-preserved : goal.items_have_float-loop-item-preserved
items_have_float-loop-item-preserved t c = record {
  same = grind (arith, common_steps);
  sound = item_sound c.deref-item-items.result.now c.loop-item.item-index c.item-item.result (omega arith) c.item-item.is c.loop-item.invariant.sound (c.has_float.ensures.sound c.if-has_float.false);
}

pub members_have_float-loop-key-preserved : goal.members_have_float-loop-key-preserved
members_have_float-loop-key-preserved t c =
    let l = c.loop-key.invariant in
    let e : Entry = (c.in-Some.key.now, c.in-Some.member.now) in
    let left = c.next.new.self in
    let split = l.split ∙ ap (λ es. l.done ++ es) c.in-Some.ensures.steps in
    let key : IsUtf8 (string_bytes e.0) = subst IsUtf8 c.as_str-key.ensures.value c.as_str-key.utf8 in
    record {
      same = grind (arith, common_steps);
      done = l.done ++ e ∷ [];
      split = split ∙ sym (append_assoc l.done (e ∷ []) left);
      sound = member_sound l.done e l.sound key (c.has_float.ensures.sound c.if-has_float.false);
    }

pub members_have_float-returns-clause-sound : goal.members_have_float-returns-clause-sound
members_have_float-returns-clause-sound t c =
    let l = c.loop-key.invariant in
    λ e. members_sound l.done _ (l.split ∙ ap (λ es. l.done ++ es) c.in-None.ensures.steps.0 ∙ append-nil l.done) c.iter-key-items.ensures.ordered l.sound
