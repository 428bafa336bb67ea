use Rattle.std.specs.Prelude.{◌↔◌}
use Rattle.sentry_tables.specs.Meets.{IsPlain, IsStored, AllEntries, entry_keys}
use Rattle.sentry_tables.specs.Cells.{entries}
use Rattle.sentry_tables.proofs.Collections.{AreTexts}
use Rattle.sentry_tables.proofs.lists.MapStringMember.is_plain.Given as goal

abbrev pub invariant-loop-key : goal.invariant-loop-key
invariant-loop-key g l = record {
  plain : AllEntries (IsPlain g.T.Member.kind) (entries g.T.Member.cell_of l.key-iterator) ↔ AllEntries (IsPlain g.T.Member.kind) (entries g.T.Member.cell_of l.self.entries);
  stored : AllEntries (IsStored g.T.Member.kind) (entries g.T.Member.cell_of l.key-iterator) → AllEntries (IsStored g.T.Member.kind) (entries g.T.Member.cell_of l.self.entries);
  texts : AreTexts (entry_keys (entries g.T.Member.cell_of l.key-iterator)) → AreTexts (entry_keys (entries g.T.Member.cell_of l.self.entries));
}
