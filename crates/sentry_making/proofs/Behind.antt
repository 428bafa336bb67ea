-- What has to stand behind an envelope for another item to follow.
use Rattle.std.proofs.Common.{◌≡◌, ◌≢◌, ◌+◌, ◌-◌, ◌≤◌, ℕ, List, [], ◌∷◌, ◌++◌, true, length, inl, inr, refl, sym, ap, ◌∙◌, subst, arith, append_assoc, append-nil, length-append}
use Rattle.std.specs.List.{All}
use Rattle.std.proofs.lemmas.List.Elements.{All-cons, All-nil}
use Rattle.sentry_json.specs.Line.{newline}
use Rattle.sentry_framing.specs.Framing.{AreFrames, Frame, IsAtFault, IsBlank, IsFault, IsFirstFrame, IsFramed, IsLineAndBody, Reading}
use Rattle.sentry_framing.specs.declared.error.EnvelopeError.{EnvelopeError}
use Rattle.sentry_framing.proofs.Opening.{IsDark, at_front}
use Rattle.sentry_forward.specs.AnyHeader.{any_reading, is_object_line}
use Rattle.sentry_making.specs.Making.{Due, GoesOn, IsAppended, IsEnvelopeOf, IsItem, item_text, made}
use Rattle.sentry_making.proofs.Framed.{follow, item_first, line_goes_on, one_more, remains, some_bytes}

abbrev AreFeeds : List ℕ → Type 0
AreFeeds feeds = All (λ b. b ≡ newline) feeds

pub no_feeds : AreFeeds []
no_feeds = All-nil (λ b. b ≡ newline)

pub one_feed : AreFeeds (10 ∷ [])
one_feed = All-cons (λ b. b ≡ newline) 10 [] refl no_feeds

pub two_feeds : AreFeeds (10 ∷ 10 ∷ [])
two_feeds = All-cons (λ b. b ≡ newline) 10 (10 ∷ []) refl one_feed

-- ---- behind a frame

module _ (reads : Reading) (body : List ℕ) (f : Frame) where
  -- other bytes that end the frame's last line may follow
  again : (text x rest : List ℕ) → (h : IsFirstFrame reads body f rest) → h.after ++ x ≡ newline ∷ (f.payload ++ newline ∷ text) → IsFirstFrame reads (body ++ x) f text
  again text x rest h ends = record {
    after = h.after ++ x;
    opens = record {
      space = h.opens.space;
      blank = h.opens.blank;
      balanced = h.opens.balanced;
      parts = ap (λ y. y ++ x) h.opens.parts ∙ append_assoc h.opens.space (f.header ++ h.after) x ∙ ap (λ y. h.opens.space ++ y) (append_assoc f.header h.after x);
    };
    stated = h.stated;
    accepted = h.accepted;
    size = h.size;
    follows = inr (inr ends);
  }

  module _ (space front : List ℕ) (blank : IsBlank space) (dark : IsDark front) (parts : body ≡ space ++ front) where
    sizes : (rest : List ℕ) → (h : IsFirstFrame reads body f rest) → length front ≡ length f.header + length h.after
    sizes rest h = ap length (at_front body f.header h.after space front h.opens blank dark parts) ∙ length-append f.header h.after

    pub within : (rest : List ℕ) → IsFirstFrame reads body f rest → length f.header ≤ length front
    within rest h = omega (arith, sizes rest h)

    -- the header ends the body
    pub two : IsFirstFrame reads body f [] → length front ≡ length f.header → (text : List ℕ) → IsFirstFrame reads (body ++ (10 ∷ 10 ∷ text)) f text
    two h same text = elim h.follows [
      | inl e ↦ again text (10 ∷ 10 ∷ text) [] h (ap (λ x. x ++ (10 ∷ 10 ∷ text)) e.0 ∙ ap (λ x. 10 ∷ (x ++ 10 ∷ text)) (sym e.1))
      | inr (inl e) ↦ absurd (omega (arith, sizes [] h, ap length e.0))
      | inr (inr e) ↦ absurd (omega (arith, sizes [] h, ap length e))
    ]

    -- the payload ends the body
    pub one : IsFirstFrame reads body f [] → length front ≢ length f.header → length front - length f.header ≡ length f.payload + 1 → (text : List ℕ) → IsFirstFrame reads (body ++ (10 ∷ text)) f text
    one h other same text = elim h.follows [
      | inl e ↦ absurd (other (omega (arith, sizes [] h, ap length e.0)))
      | inr (inl e) ↦ again text (10 ∷ text) [] h (ap (λ x. x ++ (10 ∷ text)) e.0)
      | inr (inr e) ↦ absurd (omega (arith, sizes [] h, ap length e, length-append f.payload (newline ∷ [])))
    ]

    -- a line feed does
    pub none : IsFirstFrame reads body f [] → length front ≢ length f.header → length front - length f.header ≢ length f.payload + 1 → (text : List ℕ) → IsFirstFrame reads (body ++ text) f text
    none h other another text = elim h.follows [
      | inl e ↦ absurd (other (omega (arith, sizes [] h, ap length e.0)))
      | inr (inl e) ↦ absurd (another (omega (arith, sizes [] h, ap length e.0)))
      | inr (inr e) ↦ again text text [] h (ap (λ x. x ++ text) e ∙ ap (λ x. newline ∷ x) (append_assoc f.payload (newline ∷ []) text))
    ]

-- ---- behind an envelope

module _ (bytes line body : List ℕ) (h : IsLineAndBody bytes line body) where
  -- the line has no line feed
  pub bare : length line ≡ length bytes → Due bytes line body body (10 ∷ [])
  bare same = record {
    frames = [];
    stand = refl;
    feeds_are = one_feed;
    more = λ nil text others framed. (
      text,
      record {
        after = newline ∷ text;
        no_newline = h.no_newline;
        parts = elim h.ends [
          | inl e ↦ ap (λ x. x ++ newline ∷ text) (h.parts ∙ ap (λ x. line ++ x) e.0 ∙ append-nil line)
          | inr e ↦ absurd (omega (arith, same, ap length h.parts, length-append line h.after, ap length e))
        ];
        ends = inr refl;
      },
      framed,
    );
  }

  pub ended : length line ≢ length bytes → Due bytes line body body []
  ended other = record {
    frames = [];
    stand = refl;
    feeds_are = no_feeds;
    more = λ nil text others framed. (
      text,
      record {
        after = newline ∷ text;
        no_newline = h.no_newline;
        parts = elim h.ends [
          | inl e ↦ absurd (other (sym (ap length h.parts ∙ ap (λ x. length (line ++ x)) e.0 ∙ ap length (append-nil line))))
          | inr e ↦ ap (λ x. x ++ text) (h.parts ∙ ap (λ x. line ++ x) (e ∙ ap (λ x. newline ∷ x) nil)) ∙ append_assoc line (newline ∷ []) text
        ];
        ends = inr refl;
      },
      framed,
    );
  }

  -- one more frame
  pub due_more : (rest next old feeds : List ℕ) (f : Frame) → Due bytes line body rest old → IsFirstFrame any_reading rest f next → AreFeeds feeds
      → (IsFirstFrame any_reading rest f [] → (text : List ℕ) → IsFirstFrame any_reading (rest ++ (feeds ++ text)) f text) → Due bytes line body next feeds
  due_more rest next old feeds f due first are last = record {
    frames = due.frames ++ f ∷ [];
    stand = one_more any_reading body rest next due.frames f due.stand first;
    feeds_are = are;
    more = λ nil text others framed.
        let ends : IsFirstFrame any_reading rest f [] = subst (IsFirstFrame any_reading rest f) nil first in
        let some = remains any_reading body rest due.frames (some_bytes any_reading rest next f first) due.stand in
        (body ++ (feeds ++ text), line_goes_on bytes line body (feeds ++ text) some h, follow any_reading body rest feeds text due.frames others f due.stand ends (last ends text) framed);
  }

  pub due_end : (feeds : List ℕ) → is_object_line line ≡ true → Due bytes line body [] feeds → (l : List ℕ) × ((frames : List Frame) × GoesOn bytes l frames feeds)
  due_end feeds object due =
      (line, (due.frames, record { object = object; framed = (body, h, due.stand); feeds_are = due.feeds_are; more = due.more refl }))

-- an envelope whose frames stop at a fault
pub stopped : (body rest : List ℕ) (e : EnvelopeError) → (frames : List Frame) × AreFrames any_reading body frames rest → rest ≢ [] → IsFault any_reading rest e → IsAtFault any_reading body e
stopped body rest e (frames, stand) some fault = record { frames = frames; rest = rest; stand = stand; remains = some; fault = fault }

-- ---- an item that is appended

one_framed : (item : Frame) → IsItem item → IsFramed any_reading (item_text item) (made item ∷ [])
one_framed item h = ([], subst (λ x. IsFirstFrame any_reading x (made item) []) (append-nil (item_text item)) (item_first item [] h), refl)

pub appended : (bytes feeds text : List ℕ) (item : Frame) → (line : List ℕ) × ((frames : List Frame) × GoesOn bytes line frames feeds) → IsItem item → text ≡ bytes ++ (feeds ++ item_text item) → IsAppended bytes item text
appended bytes feeds text item (line, (frames, h)) accepted is = record {
  line = line;
  frames = frames;
  feeds = feeds;
  accepted = accepted;
  object = h.object;
  framed = h.framed;
  feeds_are = h.feeds_are;
  text_is = is;
  appended = subst (IsEnvelopeOf line (frames ++ made item ∷ [])) (sym is) (h.more (item_text item) (made item ∷ []) (one_framed item accepted));
}
