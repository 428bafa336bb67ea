use Rattle.std.proofs.Common.{refl, []}
use Rattle.sentry_c.specs.Explaining.{TellsFault}
use Rattle.sentry_c.proofs.Rowed.{all_rows, next_row, zip_none}
use Rattle.sentry_c.proofs.explaining.rows_of.Goals as goal

pub loop-fault-init : goal.loop-fault-init
loop-fault-init c = ([], refl, zip_none (TellsFault c.args.texts.now.items) _ c.new-rows.ensures.items)

pub loop-fault-preserved : goal.loop-fault-preserved
loop-fault-preserved c =
    next_row c.loop-fault.texts.items c.row_of.new.texts.items c.loop-fault.rows.items c.push.new.self.items c.args.faults.now c.loop-fault.left.now c.in-Some.rest.now c.in-Some.fault.now c.in_ok-row.row
    c.in-Some.ensures.cases.0 c.in_ok-row.ensures.grown c.in_ok-row.ensures.tells c.in_ok-push.ensures.items c.loop-fault.invariant

pub returns : goal.returns
returns c = all_rows c.loop-fault.texts.items c.loop-fault.rows.items c.args.faults.now c.loop-fault.left.now c.in_default.ensures.cases c.loop-fault.invariant
