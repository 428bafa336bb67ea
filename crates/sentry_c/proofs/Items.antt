-- The next item of any type.
use Rattle.std.proofs.Common.{arith, ◌≡◌, ◌≤◌, inl, inr, ℕ, ◌+◌, ◌-◌, List, ◌++◌, length, take, drop, Option, Some, ap, sym, ◌∙◌, length-append, take-append-drop, subst}
use Rattle.sentry_framing.specs.Framing.{Frame, IsFirstFrame}
use Rattle.sentry_forward.specs.AnyHeader.{any_header, any_reading}
use Rattle.sentry_c.specs.AnyFrames.{IsNextFrame, ItemsFrom}
use Rattle.sentry_c.specs.Places.{EndsWith, Stands}
use Rattle.sentry_c.proofs.Placed.{body_ends, end_fits, end_is_dropped, ends_through, frame_ends}

pub items_end : (bytes : List ℕ) (offset : ℕ) (body : List ℕ) → ItemsFrom bytes offset body → EndsWith bytes body
items_end bytes offset body (inl (start, (line, parts, object))) = body_ends bytes line body parts
items_end bytes offset body (inr (later, within, is)) = (take offset bytes, sym (take-append-drop offset bytes) ∙ ap (λ x. take offset bytes ++ x) (sym is))

pub item_stands : (bytes body whole rest : List ℕ) (n count : ℕ) → EndsWith bytes body → body ≡ whole ++ rest → n ≡ length bytes - length body → count ≡ length body - length rest → Stands bytes n count whole
item_stands bytes body whole rest n count (before, is) parts at long =
    let all : length bytes ≡ length before + length body = ap length is ∙ length-append before body in
    let some : length body ≡ length whole + length rest = ap length parts ∙ length-append whole rest in
    record {
      before = before;
      after = rest;
      split = is ∙ ap (λ x. before ++ x) parts;
      offset_is = omega (arith, all, at);
      count_is = omega (arith, some, long);
    }

module _ (bytes : List ℕ) (offset : ℕ) (body : List ℕ) (f : Frame) (rest : List ℕ) (begins : ItemsFrom bytes offset body) (first : IsFirstFrame any_reading body f rest) where
  ends : EndsWith bytes rest
  ends = ends_through bytes body rest (items_end bytes offset body begins) (frame_ends any_reading body f rest first)

  pub rest_fits : length rest ≤ length bytes
  rest_fits = end_fits bytes rest ends

  pub rest_is_dropped : drop (length bytes - length rest) bytes ≡ rest
  rest_is_dropped = end_is_dropped bytes rest ends

  pub next_frame : (word : List ℕ) (stated : Option ℕ) → any_header f.header ≡ Some (record { word = word; length = stated }) → IsNextFrame bytes offset body f (length bytes - length rest) word
  next_frame word stated says = record {
    begins = begins;
    first = subst (IsFirstFrame any_reading body f) (sym rest_is_dropped) first;
    within = omega arith;
    stated = stated;
    says = says;
  }
