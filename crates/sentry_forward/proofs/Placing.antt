-- Where the parts of a frame stand in the bytes of its envelope.
use Rattle.std.proofs.Common.{◌≡◌, inl, inr, ℕ, ◌≤◌, ◌-◌, ◌+◌, List, [], ◌∷◌, ◌++◌, take, drop, length, length-append, take-append-drop, sym, ◌∙◌, ap, subst, append_assoc, append-nil, arith}
use Rattle.std.proofs.lemmas.List.{length-take-le}
use Rattle.sentry_json.specs.Line.{newline}
use Rattle.sentry_framing.specs.Framing.{Frame, IsFirstFrame, Opens, Reading}
use Rattle.sentry_framing.proofs.Opening.{same_opening}
use Rattle.sentry_forward.specs.Places.{StandsAt}
use Rattle.sentry_forward.proofs.Left.{back_is, cut_front, suffix}

-- behind a line feed
stands_behind : (bytes before after payload more : List ℕ) → bytes ≡ before ++ after → after ≡ newline ∷ (payload ++ more) → StandsAt bytes (length bytes - (length after - 1)) payload
stands_behind bytes before after payload more parts is = (
  before ++ newline ∷ [],
  more,
  parts ∙ ap (λ x. before ++ x) is ∙ sym (append_assoc before (newline ∷ []) (payload ++ more)),
  omega (arith, ap length parts, ap length is, length-append before after, length-append before (newline ∷ [])),
)

-- at the end
stands_at_end : (bytes after payload : List ℕ) → after ≡ [] → payload ≡ [] → StandsAt bytes (length bytes - (length after - 1)) payload
stands_at_end bytes after payload none empty = (
  bytes,
  [],
  sym (append-nil bytes) ∙ ap (λ x. bytes ++ x) (sym (append-nil payload ∙ empty)),
  omega (arith, ap length none),
)

-- the frame of the item that begins at an offset
module _ (reads : Reading) (bytes : List ℕ) (start : ℕ) (fits : start ≤ length bytes) (body : List ℕ) (is : body ≡ drop start bytes) where
  whole : bytes ≡ take start bytes ++ body
  whole = sym (take-append-drop start bytes) ∙ ap (λ x. take start bytes ++ x) (sym is)

  front_length : length (take start bytes) ≡ start
  front_length = length-take-le start bytes fits

  module _ (rest : List ℕ) (f : Frame) (h : IsFirstFrame reads body f rest) where
    front_of_rest : (front : List ℕ) × (bytes ≡ front ++ rest)
    front_of_rest =
        let (front, e) = suffix reads body rest f h in
        (take start bytes ++ front, whole ∙ ap (λ x. take start bytes ++ x) e ∙ sym (append_assoc (take start bytes) front rest))

    pub rest_within : length rest ≤ length bytes
    rest_within = omega (arith, ap length front_of_rest.1, length-append front_of_rest.0 rest)

    pub next_is : drop (length bytes - length rest) bytes ≡ rest
    next_is = back_is bytes front_of_rest.0 rest front_of_rest.1

    pub first_from : IsFirstFrame reads body f (drop (length bytes - length rest) bytes)
    first_from = subst (λ x. IsFirstFrame reads body f x) (sym next_is) h

    pub cut_from : body ≡ take (length body - length rest) body ++ drop (length bytes - length rest) bytes
    cut_from = cut_front reads body rest f h ∙ ap (λ x. take (length body - length rest) body ++ x) (sym next_is)

    pub item_stands : StandsAt bytes start (take (length body - length rest) body)
    item_stands = (take start bytes, rest, whole ∙ ap (λ x. take start bytes ++ x) (cut_front reads body rest f h), front_length)

  module _ (header after : List ℕ) (o : Opens body header after) where
    front_of_header : bytes ≡ (take start bytes ++ o.space) ++ (header ++ after)
    front_of_header = whole ∙ ap (λ x. take start bytes ++ x) o.parts ∙ sym (append_assoc (take start bytes) o.space (header ++ after))

    pub after_within : length after + length header ≤ length bytes
    after_within = omega (arith, ap length front_of_header, length-append (take start bytes ++ o.space) (header ++ after), length-append header after)

    pub header_stands : StandsAt bytes (length bytes - length after - length header) header
    header_stands = (
      take start bytes ++ o.space,
      after,
      front_of_header,
      omega (arith, ap length front_of_header, length-append (take start bytes ++ o.space) (header ++ after), length-append header after),
    )

    pub payload_stands : (rest : List ℕ) (f : Frame) → IsFirstFrame reads body f rest → StandsAt bytes (length bytes - (length after - 1)) f.payload
    payload_stands rest f h =
        let same = (same_opening body f.header header h.after after h.opens o).1 in
        let before = (take start bytes ++ o.space) ++ header in
        let parts = front_of_header ∙ sym (append_assoc (take start bytes ++ o.space) header after) in
        elim h.follows [
          | inl e ↦ stands_at_end bytes after f.payload (sym same ∙ e.0) e.1
          | inr (inl e) ↦ stands_behind bytes before after f.payload [] parts (sym same ∙ e.0 ∙ ap (λ x. newline ∷ x) (sym (append-nil f.payload)))
          | inr (inr e) ↦ stands_behind bytes before after f.payload (newline ∷ rest) parts (sym same ∙ e)
        ]
