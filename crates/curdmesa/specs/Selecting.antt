-- Which items of an envelope are kept.
use Rattle.std.specs.Prelude.{◌≡◌, ◌&&◌, ◌||◌, ◌==◌, not, nat_le, true, ℕ, Bool, List, map, length, Option, Some, None}
use Rattle.std.specs.Borrow.{Bor}
use Rattle.std.specs.List.{All, list_any}
use Rattle.std.specs.Str.{bytes_eq}
use Rattle.sentry_forward.specs.AnyHeader.{any_reading, is_object_line}
use Rattle.sentry_forward.specs.Forward.{Leaves, dropped}
use Rattle.sentry_forward.specs.View.{AreNamed, IsPlaced, piece_of, text_of, word_of}
use Rattle.sentry_forward.specs.declared.forwarding.Forwarded.{Forwarded}
use Rattle.sentry_forward.specs.declared.frames.AnyFrame.{AnyFrame}
use Rattle.curdmesa.specs.declared.select.Selection.{Selection}

-- the word is one of these
abbrev pub is_listed : List (Bor (List ℕ)) → List ℕ → Bool
is_listed words word = list_any (λ w. bytes_eq w.now word) words

-- not longer than the limit, if there is one
abbrev pub is_within : Option ℕ → ℕ → Bool
is_within None len = true
is_within (Some most) len = nat_le len most

-- An item is kept whose type is one of those that are kept, if any are named, and none of those that
-- are dropped, and whose payload isn't too long.
abbrev pub keeps : Selection → AnyFrame → Bool
keeps selection frame =
    ((length selection.keep.items == 0) || is_listed selection.keep.items (word_of frame))
    && (not (is_listed selection.drop.items (word_of frame)) && is_within selection.max_bytes (length frame.payload.now))

-- The envelope in these bytes consists of a header line and items, each of which is kept or dropped
-- as the selection says: left are its bytes without those of the dropped items.
pub record IsSelected (selection : Selection) (bytes : List ℕ) (result : Forwarded) : Type 0 where
  pub line : List ℕ
  pub frames : List AnyFrame
  pub object : is_object_line line ≡ true
  pub named : AreNamed frames
  pub placed : All (IsPlaced bytes) frames
  pub left : Leaves any_reading bytes line (map piece_of frames) (map (keeps selection) frames) (text_of result)
  pub gone : result.dropped.items ≡ dropped frames (map (keeps selection) frames)
  pub count : result.items ≡ length frames
