use Rattle.std.proofs.Common.{◌≡◌, ℕ, List, length}
use Rattle.sentry_framing.specs.Framing.{AreFrames, Frame, IsLineAndBody}
use Rattle.sentry_forward.specs.AnyHeader.{any_reading}
use Rattle.sentry_making.specs.Making.{Due}
use Rattle.sentry_making.proofs.making.feeds_behind_all.Given as goal

abbrev pub invariant-loop-next : goal.invariant-loop-next
invariant-loop-next l = record {
  body_is : l.body ≡ l.reader.rest;
  stand : (frames : List Frame) × AreFrames any_reading l.fn.reader.rest frames l.reader.rest;
  due : (bytes line : List ℕ) → IsLineAndBody bytes line l.fn.reader.rest → Due bytes line l.fn.reader.rest l.fn.reader.rest l.given → Due bytes line l.fn.reader.rest l.reader.rest l.feeds;
}

abbrev pub decreases-loop-next : goal.decreases-loop-next
decreases-loop-next l = length l.reader.rest
