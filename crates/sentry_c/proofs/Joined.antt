-- Pairs of texts, one after another, and what is made of them.
use Rattle.std.proofs.Common.{◌≡◌, ◌≢◌, ◌+◌, ◌<◌, ◌≤◌, ℕ, List, [], ◌∷◌, ◌++◌, length, map, drop, get_or, refl, sym, ap, ◌∙◌, subst, arith, append_assoc, append-nil, length-append}
use Rattle.std.specs.List.{All}
use Rattle.std.proofs.lemmas.List.{drop_all, drop_more, drop-map}
use Rattle.std.proofs.lemmas.List.Elements.{All-drop, All-head}
use Rattle.std.specs.Str.{IsUtf8}
use Rattle.sentry_framing.specs.View.{frame_of}
use Rattle.sentry_framing.specs.declared.frames.ItemFrame.{ItemFrame}
use Rattle.sentry_making.specs.Making.{IsEnvelopeOf, IsHeaderLine, IsItem, envelope_text, made}
use Rattle.sentry_c.specs.Making.{AreJoined, AreTexts, HasNoItem, IsMade, Pair, both, frame_in, total}
use Rattle.sentry_c.specs.declared.pairs.CurdmesaPair.{CurdmesaPair}

-- whatever pairs the rest has, all have these and those
abbrev pub GoOn : List ℕ → List CurdmesaPair → List Pair → List ℕ → List CurdmesaPair → Type 0
GoOn texts lengths done left others = (rest : List Pair) → AreJoined left others rest → AreJoined texts lengths (done ++ rest)

pub none_yet : (texts : List ℕ) (lengths : List CurdmesaPair) → GoOn texts lengths [] texts lengths
none_yet texts lengths rest h = h

module _ (texts : List ℕ) (lengths : List CurdmesaPair) (i : ℕ) (d : CurdmesaPair) (within : i < length lengths) where
  abbrev here : CurdmesaPair
  here = get_or lengths i d

  pub pair_more : (items : List Pair) (left rest : List ℕ) (p : Pair) → GoOn texts lengths items left (drop i lengths) → left ≡ p.0 ++ (p.1 ++ rest) → length p.0 ≡ here.first → length p.1 ≡ here.second
      → GoOn texts lengths (items ++ p ∷ []) rest (drop (i + 1) lengths)
  pair_more items left rest p goes parts first second others h =
      subst (AreJoined texts lengths) (sym (append_assoc items (p ∷ []) others))
      (goes (p ∷ others) (subst (λ ls. AreJoined left ls (p ∷ others)) (sym (drop_more lengths i d within)) (record {
        texts_are = parts ∙ ap (λ x. p.0 ++ (p.1 ++ x)) h.texts_are;
        lengths_are = (first, second, h.lengths_are);
      })))

  total_is : total (drop i lengths) ≡ here.first + (here.second + total (drop (i + 1) lengths))
  total_is = ap total (drop_more lengths i d within)

  pub count_more : (left rest first second : List ℕ) → total (drop i lengths) + length texts ≡ total lengths + length left → left ≡ first ++ (second ++ rest) → length first ≡ here.first → length second ≡ here.second
      → total (drop (i + 1) lengths) + length texts ≡ total lengths + length rest
  count_more left rest first second count parts f s = omega (arith, count, total_is, ap length parts, length-append first (second ++ rest), length-append second rest, f, s)

  pub too_short : (left : List ℕ) → total (drop i lengths) + length texts ≡ total lengths + length left → length left < here.first + here.second → length texts ≢ total lengths
  too_short left count short same = omega (arith, count, total_is, short, same)

module _ (texts : List ℕ) (lengths : List CurdmesaPair) (i : ℕ) (end : length lengths ≤ i) where
  pub all_pairs : (items : List Pair) (left : List ℕ) → GoOn texts lengths items left (drop i lengths) → left ≡ [] → AreJoined texts lengths items
  all_pairs items left goes nil =
      subst (AreJoined texts lengths) (append-nil items) (goes [] (subst (λ ls. AreJoined left ls []) (sym (drop_all i lengths end)) (record { texts_are = nil; lengths_are = tt })))

  pub too_long : (left : List ℕ) → total (drop i lengths) + length texts ≡ total lengths + length left → length left ≢ 0 → length texts ≢ total lengths
  too_long left count more same = more (omega (arith, count, ap total (drop_all i lengths end), same))

-- ---- frames

frames_are : (items : List ItemFrame) → map frame_in (map both items) ≡ map frame_of items
frames_are [] = refl
frames_are (item ∷ items) = ap (λ fs. frame_of item ∷ fs) (frames_are items)

module _ (line texts : List ℕ) (lengths : List CurdmesaPair) (items : List ItemFrame) (are : AreJoined texts lengths (map both items)) where
  pub is_made : (text : List ℕ) → IsHeaderLine line → All IsItem (map frame_of items) → text ≡ envelope_text line (map frame_of items) → IsEnvelopeOf line (map made (map frame_of items)) text → IsMade line texts lengths text
  is_made text h accepted is framed = record {
    items = map both items;
    items_are = are;
    line_is = h;
    accepted = subst (All IsItem) (sym (frames_are items)) accepted;
    text_is = is ∙ ap (envelope_text line) (sym (frames_are items));
    framed = subst (λ fs. IsEnvelopeOf line (map made fs) text) (sym (frames_are items)) framed;
  }

  pub no_item : (All IsItem (map frame_of items) → ⊥) → HasNoItem texts lengths
  no_item none = (map both items, are, λ all. none (subst (All IsItem) (frames_are items) all))

-- ---- texts

module _ (pairs : List ItemFrame) (i : ℕ) (d : ItemFrame) (within : i < length pairs) where
  one_of : AreTexts (map both pairs) → IsUtf8 (get_or pairs i d).header.now × IsUtf8 (get_or pairs i d).payload.now
  one_of are = All-head (λ p. IsUtf8 p.0 × IsUtf8 p.1) (both (get_or pairs i d)) (map both (drop (i + 1) pairs))
      (subst AreTexts (ap (map both) (drop_more pairs i d within)) (subst AreTexts (drop-map both i pairs) (All-drop (λ p. IsUtf8 p.0 × IsUtf8 p.1) i (map both pairs) are)))

  pub no_first : (IsUtf8 (get_or pairs i d).header.now → ⊥) → AreTexts (map both pairs) → ⊥
  no_first none are = none (one_of are).0

  pub no_second : (IsUtf8 (get_or pairs i d).payload.now → ⊥) → AreTexts (map both pairs) → ⊥
  no_second none are = none (one_of are).1
