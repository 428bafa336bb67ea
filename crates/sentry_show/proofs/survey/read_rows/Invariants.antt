use Rattle.std.proofs.Common.{◌≡◌, map, length}
use Rattle.std.specs.List.{All}
use Rattle.sentry_framing.specs.Framing.{AreFrames}
use Rattle.sentry_forward.specs.AnyHeader.{any_reading}
use Rattle.sentry_show.specs.Rows.{IsRowOf, frame_of}
use Rattle.sentry_show.proofs.survey.read_rows.Given as goal

-- the frames so far stand in front of what is left
abbrev pub invariant-loop-next : goal.invariant-loop-next
invariant-loop-next l = record {
  bytes : l.reader.bytes ≡ l.fn.reader.bytes;
  each : All (IsRowOf l.fn.reader.bytes) l.rows.items;
  frames : AreFrames any_reading l.fn.reader.rest (map frame_of l.rows.items) l.reader.rest;
}

abbrev pub decreases-loop-next : goal.decreases-loop-next
decreases-loop-next l = length l.reader.rest
