use Rattle.std.proofs.Common.{◌∙◌, ◌≤◌, arith, length}
use Rattle.sentry_making.proofs.JsonTexts.{all_written, one_more}
use Rattle.sentry_making.proofs.texts.write_members.Goals as goal

pub loop-member-preserved : goal.loop-member-preserved
loop-member-preserved c =
    let inv = c.loop-member.invariant in
    record {
      whole = one_more c.args.members.now c.loop-member.member-index _ c.loop-member-test.true c.args.writer.now.tokens c.loop-member.writer.tokens c.key.new.self.tokens c.string.new.self.tokens inv.whole c.in_ok-key.ensures.ok c.in_ok-string.ensures.ok;
      before = c.string.ensures.room.0 ∙ c.key.ensures.room.0 ∙ inv.before;
    }

pub returns-clause-tokens : goal.returns-clause-tokens
returns-clause-tokens c =
    let end : length c.args.members.now ≤ c.loop-member.member-index = omega (arith, c.loop-member-test.false) in
    all_written c.args.members.now c.loop-member.member-index c.args.writer.now.tokens c.loop-member.writer.tokens end c.loop-member.invariant.whole
