-- What is made is framed.
use Rattle.std.proofs.Common.{◌≡◌, ◌≢◌, ◌<◌, ◌≤◌, ◌+◌, ℕ, get_or, drop, List, [], ◌∷◌, ◌++◌, Some, length, map, inl, inr, refl, sym, ap, ◌∙◌, subst, arith, append_assoc, append-nil, IsTrue}
use Rattle.std.specs.List.{All}
use Rattle.std.proofs.lemmas.List.Elements.{All-cons, All-head, All-tail, All-nil}
use Rattle.std.proofs.lemmas.List.{drop_all, drop_more}
use Rattle.sentry_framing.specs.View.{frame_of}
use Rattle.sentry_framing.specs.declared.frames.ItemFrame.{ItemFrame}
use Rattle.sentry_json.specs.Line.{newline, HasNoNewline}
use Rattle.sentry_framing.specs.Framing.{AreFrames, Frame, IsFirstFrame, IsFramed, IsLineAndBody, Reading, is_space, with_line}
use Rattle.sentry_framing.proofs.Verdicts.{frame_shorter}
use Rattle.sentry_forward.specs.AnyHeader.{any_reading}
use Rattle.sentry_forward.proofs.Readings.{reads}
use Rattle.sentry_making.specs.Making.{IsEnvelopeOf, IsHeaderLine, IsItem, envelope_text, item_text, items_text, made, made_header}
use Rattle.sentry_making.proofs.Stated.{header_balanced, header_says}

-- ---- items

pub item_first : (item : Frame) (rest : List ℕ) → IsItem item → IsFirstFrame any_reading (item_text item ++ rest) (made item) rest
item_first item rest h =
    let header = made_header item in
    let tail : (newline ∷ (item.payload ++ newline ∷ [])) ++ rest ≡ newline ∷ (item.payload ++ newline ∷ rest) = ap (λ x. newline ∷ x) (append_assoc item.payload (newline ∷ []) rest) in
    record {
      after = newline ∷ (item.payload ++ newline ∷ rest);
      opens = record {
        space = [];
        blank = All-nil (λ b. IsTrue (is_space b));
        balanced = header_balanced item h;
        parts = append_assoc header (newline ∷ (item.payload ++ newline ∷ [])) rest ∙ ap (λ x. header ++ x) tail;
      };
      stated = Some (length item.payload);
      accepted = reads header _ (header_says item h.typed h h.says);
      size = refl;
      follows = inr (inr refl);
    }

pub items_framed : (items : List Frame) → All IsItem items → IsFramed any_reading (items_text items) (map made items)
items_framed [] h = refl
items_framed (item ∷ items) h = (items_text items, item_first item (items_text items) (All-head IsItem item items h), items_framed items (All-tail IsItem item items h))

pub line_stands : (line body : List ℕ) → HasNoNewline line → IsLineAndBody (with_line line body) line body
line_stands line body clean = record { after = newline ∷ body; no_newline = clean; parts = refl; ends = inr refl }

pub envelope_framed : (line : List ℕ) (items : List Frame) → IsHeaderLine line → All IsItem items → IsEnvelopeOf line (map made items) (envelope_text line items)
envelope_framed line items h are = (items_text items, line_stands line (items_text items) h.no_newline, items_framed items are)

-- ---- frames behind which others follow

module _ (reading : Reading) where
  -- a frame isn't read from nothing
  pub some_bytes : (body rest : List ℕ) (f : Frame) → IsFirstFrame reading body f rest → body ≢ []
  some_bytes body rest f h nil = let less = frame_shorter reading body f rest h in omega (arith, ap length nil)

  -- other bytes may follow a frame that isn't the last
  longer : (body rest more : List ℕ) (f : Frame) → rest ≢ [] → IsFirstFrame reading body f rest → IsFirstFrame reading (body ++ more) f (rest ++ more)
  longer body rest more f some h = elim h.follows [
    | inl e ↦ absurd (some e.2)
    | inr (inl e) ↦ absurd (some e.1)
    | inr (inr e) ↦ record {
      after = newline ∷ (f.payload ++ newline ∷ (rest ++ more));
      opens = record {
        space = h.opens.space;
        blank = h.opens.blank;
        balanced = h.opens.balanced;
        parts =
            ap (λ x. x ++ more) (h.opens.parts ∙ ap (λ x. h.opens.space ++ (f.header ++ x)) e)
            ∙ append_assoc h.opens.space (f.header ++ newline ∷ (f.payload ++ newline ∷ rest)) more
            ∙ ap (λ x. h.opens.space ++ x) (append_assoc f.header (newline ∷ (f.payload ++ newline ∷ rest)) more ∙ ap (λ x. f.header ++ newline ∷ x) (append_assoc f.payload (newline ∷ rest) more));
      };
      stated = h.stated;
      accepted = h.accepted;
      size = h.size;
      follows = inr (inr refl);
    }
  ]

  pub remains : (body rest : List ℕ) (fs : List Frame) → rest ≢ [] → AreFrames reading body fs rest → body ≢ []
  remains body rest [] some h nil = some (sym h ∙ nil)
  remains body rest (f ∷ fs) some (next, h, more) nil = some_bytes body next f h nil

  all_longer : (body rest more : List ℕ) (fs : List Frame) → rest ≢ [] → AreFrames reading body fs rest → AreFrames reading (body ++ more) fs (rest ++ more)
  all_longer body rest more [] some h = ap (λ x. x ++ more) h
  all_longer body rest more (f ∷ fs) some (next, h, others) = (next ++ more, longer body next more f (remains next rest fs some others) h, all_longer next rest more fs some others)

  pub one_more : (body rest next : List ℕ) (fs : List Frame) (f : Frame) → AreFrames reading body fs rest → IsFirstFrame reading rest f next → AreFrames reading body (fs ++ f ∷ []) next
  one_more body rest next [] f h first = (next, subst (λ x. IsFirstFrame reading x f next) (sym h) first, refl)
  one_more body rest next (g ∷ fs) f (mid, h, others) first = (mid, h, one_more mid rest next fs f others first)

  joined : (body rest : List ℕ) (fs gs : List Frame) (last : List ℕ) → AreFrames reading body fs rest → AreFrames reading rest gs last → AreFrames reading body (fs ++ gs) last
  joined body rest [] gs last h others = subst (λ x. AreFrames reading x gs last) (sym h) others
  joined body rest (f ∷ fs) gs last (mid, h, more) others = (mid, h, joined mid rest fs gs last more others)

  -- Behind a last frame, which others may follow with bytes between, they follow all frames.
  pub follow : (body rest between text : List ℕ) (fs gs : List Frame) (f : Frame) → AreFrames reading body fs rest → IsFirstFrame reading rest f [] → IsFirstFrame reading (rest ++ (between ++ text)) f text → IsFramed reading text gs
      → IsFramed reading (body ++ (between ++ text)) ((fs ++ f ∷ []) ++ gs)
  follow body rest between text fs gs f before last again after =
      let some = some_bytes rest [] f last in
      let longer_all = all_longer body rest (between ++ text) fs some before in
      joined (body ++ (between ++ text)) text (fs ++ f ∷ []) gs [] (one_more (body ++ (between ++ text)) (rest ++ (between ++ text)) text fs f longer_all again) after

-- ---- the line of a longer envelope

-- a body that isn't empty goes on
pub line_goes_on : (bytes line body more : List ℕ) → body ≢ [] → IsLineAndBody bytes line body → IsLineAndBody (bytes ++ more) line (body ++ more)
line_goes_on bytes line body more some h = elim h.ends [
  | inl e ↦ absurd (some e.1)
  | inr e ↦ record {
    after = newline ∷ (body ++ more);
    no_newline = h.no_newline;
    parts = ap (λ x. x ++ more) (h.parts ∙ ap (λ x. line ++ x) e) ∙ append_assoc line (newline ∷ body) more;
    ends = inr refl;
  }
]

-- ---- items one after another

-- either all of both are items, or not all of either
abbrev pub IsAlike : List Frame → List Frame → Type 0
IsAlike left items = (All IsItem left → All IsItem items) × (All IsItem items → All IsItem left)

module _ (items : List ItemFrame) (i : ℕ) (d : ItemFrame) (within : i < length items) (all : List Frame) where
  abbrev here : Frame
  here = frame_of (get_or items i d)

  abbrev left : List Frame
  left = map frame_of (drop i items)

  abbrev behind : List Frame
  behind = map frame_of (drop (i + 1) items)

  left_is : left ≡ here ∷ behind
  left_is = ap (map frame_of) (drop_more items i d within)

  pub whole_more : (text new whole : List ℕ) → text ++ items_text left ≡ whole → new ≡ text ++ item_text here → new ++ items_text behind ≡ whole
  whole_more text new whole e pushed =
      ap (λ y. y ++ items_text behind) pushed ∙ append_assoc text (item_text here) (items_text behind) ∙ ap (λ fs. text ++ items_text fs) (sym left_is) ∙ e

  pub alike_more : IsAlike left all → IsItem here → IsAlike behind all
  alike_more h item = (
    λ are. h.0 (subst (All IsItem) (sym left_is) (All-cons IsItem here behind item are)),
    λ are. All-tail IsItem here behind (subst (All IsItem) left_is (h.1 are)),
  )

  pub not_all : IsAlike left all → (IsItem here → ⊥) → All IsItem all → ⊥
  not_all h none are = none (All-head IsItem here behind (subst (All IsItem) left_is (h.1 are)))

-- ---- all items

pub all_done : (items : List ItemFrame) (i : ℕ) (text whole : List ℕ) → length items ≤ i → text ++ items_text (map frame_of (drop i items)) ≡ whole → text ≡ whole
all_done items i text whole end e = sym (append-nil text) ∙ ap (λ fs. text ++ items_text (map frame_of fs)) (sym (drop_all i items end)) ∙ e

pub all_items : (items : List ItemFrame) (i : ℕ) → length items ≤ i → IsAlike (map frame_of (drop i items)) (map frame_of items) → All IsItem (map frame_of items)
all_items items i end h = h.0 (subst (λ fs. All IsItem (map frame_of fs)) (sym (drop_all i items end)) (All-nil IsItem))

pub made_of : (line text : List ℕ) (items : List Frame) → text ≡ envelope_text line items → IsHeaderLine line → All IsItem items → IsEnvelopeOf line (map made items) text
made_of line text items is h are = subst (IsEnvelopeOf line (map made items)) (sym is) (envelope_framed line items h are)
