use Rattle.std.proofs.Common.{◌≡◌, ◌+◌, ◌<◌, List, length}
use Rattle.sentry_framing.specs.Framing.{Frame}
use Rattle.curdmesa.specs.Cat.{FramesStand}
use Rattle.curdmesa.proofs.cat.payload.Given as goal

-- as many frames were read as are no longer left to read
abbrev pub invariant-loop-next : goal.invariant-loop-next
invariant-loop-next l = record {
  some : 0 < l.left;
  read : (frames : List Frame) × FramesStand l.bytes frames l.frames.rest × (length frames + l.left ≡ l.number);
}

abbrev pub decreases-loop-next : goal.decreases-loop-next
decreases-loop-next l = length l.frames.rest
