use Rattle.sentry_writing.specs.Given.{row_given}
use Rattle.sentry_writing.proofs.OfTables.{values_wrote}
use Rattle.sentry_writing.proofs.values.AsValuesCodecValues.write.Goals as goal

pub returns : goal.returns
unfolding row_given
returns g c = values_wrote g.T.Member.kind g.T.Member.cell_of c.args.value.now.values.items _ _ _ _ _ c.in_ok-begin_object.ensures c.in_ok-write_member.ensures c.end_object.ensures
