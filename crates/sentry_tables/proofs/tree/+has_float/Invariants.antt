use Rattle.std.proofs.Common.{◌≡◌, List, ◌++◌, drop, take}
use Rattle.serde_json.specs.View.{items_view, members_view}
use Rattle.serde_json.specs.Written.{items_have_float, members_have_float}
use Rattle.serde_json.proofs.Views.{Entry}
use Rattle.sentry_json.specs.Sound.{AreSound, MembersAreSound}
use Rattle.sentry_tables.proofs.tree.+has_float.Given as goal

abbrev pub invariant-items_have_float-loop-item : goal.invariant-items_have_float-loop-item
invariant-items_have_float-loop-item l = record {
  same : items_have_float (items_view (drop l.item-index l.item-items)) ≡ items_have_float (items_view l.items.items);
  sound : AreSound (items_view (take l.item-index l.item-items));
}

abbrev pub invariant-members_have_float-loop-key : goal.invariant-members_have_float-loop-key
invariant-members_have_float-loop-key l = record {
  same : members_have_float (members_view l.key-iterator) ≡ members_have_float (members_view l.members.entries);
  done : List Entry;
  split : l.members.entries ≡ done ++ l.key-iterator;
  sound : MembersAreSound (members_view done);
}
