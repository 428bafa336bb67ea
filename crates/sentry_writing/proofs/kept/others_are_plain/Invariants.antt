use Rattle.std.proofs.Common.{◌≡◌, map}
use Rattle.std.specs.Prelude.{◌↔◌}
use Rattle.serde_json.specs.View.{members_view}
use Rattle.serde_json.specs.Written.{members_have_float}
use Rattle.sentry_json.specs.Sound.{MembersAreSound}
use Rattle.sentry_tables.specs.Meets.{IsClear}
use Rattle.sentry_writing.proofs.kept.others_are_plain.Given as goal

abbrev pub invariant-loop-key : goal.invariant-loop-key
invariant-loop-key l = record {
  clear : IsClear (map (λ name. name.now) l.names) (members_view l.key-iterator) ↔ IsClear (map (λ name. name.now) l.names) (members_view l.others.entries);
  whole : members_have_float (members_view l.key-iterator) ≡ members_have_float (members_view l.others.entries);
  sound : MembersAreSound (members_view l.key-iterator) → MembersAreSound (members_view l.others.entries);
}
