use Rattle.std.proofs.Common.{◌≡◌, ◌++◌, List, length}
use Rattle.std.specs.List.{AllZip}
use Rattle.sentry_mending.specs.declared.fault.Fault.{Fault}
use Rattle.sentry_c.specs.Explaining.{TellsFault}
use Rattle.sentry_c.proofs.explaining.rows_of.Given as goal

-- the rows so far are those of the faults in front of what is left
abbrev pub invariant-loop-fault : goal.invariant-loop-fault
invariant-loop-fault l = (done : List Fault) × (l.faults ≡ done ++ l.left) × AllZip (TellsFault l.texts.items) l.rows.items done

abbrev pub decreases-loop-fault : goal.decreases-loop-fault
decreases-loop-fault l = length l.left
