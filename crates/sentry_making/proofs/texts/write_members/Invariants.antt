use Rattle.std.proofs.Common.{◌≡◌, ◌++◌, drop}
use Rattle.sentry_making.specs.Texts.{member_tokens}
use Rattle.sentry_making.proofs.texts.write_members.Given as goal

abbrev pub invariant-loop-member : goal.invariant-loop-member
invariant-loop-member l = record {
  whole : l.writer.tokens ++ member_tokens (drop l.member-index l.members) ≡ l.fn.writer.tokens ++ member_tokens l.members;
  before : l.writer.before ≡ l.fn.writer.before;
}
