use Rattle.std.proofs.Common.{take}
use Rattle.sentry_ledger.specs.FrameLosses.{AreLossesOfAll}
use Rattle.sentry_ledger.proofs.lost_frames.losses_of_frames.Given as goal

abbrev pub invariant-loop-frame : goal.invariant-loop-frame
invariant-loop-frame l = AreLossesOfAll (take l.frame-index l.frames) l.losses.items
