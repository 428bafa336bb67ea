use Rattle.std.proofs.Common.{◌≡◌, ◌≤◌, ◌++◌, List, map, length}
use Rattle.std.specs.List.{All}
use Rattle.sentry_framing.specs.Framing.{AreFrames}
use Rattle.sentry_forward.specs.AnyHeader.{any_reading}
use Rattle.sentry_forward.specs.Forward.{ArePieces}
use Rattle.sentry_forward.specs.View.{AreNamed, IsPlaced, any_frame, piece_of}
use Rattle.sentry_forward.specs.declared.frames.AnyFrame.{AnyFrame}
use Rattle.sentry_forward.proofs.forwarding.read_frames.Given as goal

-- whatever frames follow, all stand there
abbrev pub invariant-loop-alloc : goal.invariant-loop-alloc
invariant-loop-alloc l = record {
  bytes : l.reader.bytes ≡ l.fn.reader.bytes;
  bounded : length l.frames.items ≤ l.max;
  named : AreNamed l.frames.items;
  placed : All (IsPlaced l.fn.reader.bytes) l.frames.items;
  stand : AreFrames any_reading l.fn.reader.rest (map any_frame l.frames.items) l.reader.rest;
  goes_on : (more : List AnyFrame) → ArePieces any_reading l.reader.rest (map piece_of more)
      → ArePieces any_reading l.fn.reader.rest (map piece_of (l.frames.items ++ more));
}

abbrev pub decreases-loop-alloc : goal.decreases-loop-alloc
decreases-loop-alloc l = length l.reader.rest
