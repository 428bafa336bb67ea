-- What a forwarded envelope is.
use Rattle.std.proofs.Common.{◌≡◌, ℕ, ◌-◌, Bool, true, List, [], map, length, take}
use Rattle.std.specs.List.{All}
use Rattle.sentry_framing.specs.Framing.{IsLineAndBody}
use Rattle.sentry_forward.specs.AnyHeader.{any_reading, is_object_line}
use Rattle.sentry_forward.specs.Forward.{ArePieces, Asked}
use Rattle.sentry_forward.specs.View.{AreNamed, IsForwarded, IsPlaced, Sorts, decided, piece_of, text_of}
use Rattle.sentry_forward.specs.declared.forwarding.Forwarded.{Forwarded}
use Rattle.sentry_forward.specs.declared.frames.AnyFrame.{AnyFrame}
use Rattle.sentry_forward.proofs.Left.{body_front}

pub forwarded : {F : Type 0} (ask : F → AnyFrame → Bool → F → Type 0) (follow : Bool) (bytes line body : List ℕ) (frames : List AnyFrame) (first last : F) (answers : List Bool) (result : Forwarded)
    → is_object_line line ≡ true → IsLineAndBody bytes line body → ArePieces any_reading body (map piece_of frames) → AreNamed frames → All (IsPlaced bytes) frames → Asked ask first frames answers last
    → Sorts frames (decided follow frames answers) (take (length bytes - length body) bytes) [] (text_of result) result.dropped.items → result.items ≡ length frames → IsForwarded ask follow bytes first last result
forwarded ask follow bytes line body frames first last answers result object parts pieces named placed asked sorts count = record {
  line = line;
  frames = frames;
  answers = answers;
  object = object;
  named = named;
  placed = placed;
  asked = asked;
  left = record {
    front = take (length bytes - length body) bytes;
    body = body;
    header = parts;
    parts = body_front bytes line body parts;
    framed = pieces;
    left = sorts.text_is;
  };
  gone = sorts.gone_are;
  count = count;
}
