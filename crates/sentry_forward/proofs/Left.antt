-- What is left where some items are dropped.
use Rattle.std.proofs.Common.{IsTrue, eqb, ◌≡◌, inl, inr, ℕ, ◌≤◌, ◌-◌, take, drop, length-append, Bool, true, false, List, [], ◌∷◌, ◌++◌, map, length, refl, sym, ◌∙◌, ap, ap₂, subst, append_assoc, append-nil, arith}
use Rattle.std.proofs.lemmas.Bool.Decides.{Decides-eqb}
use Rattle.std.proofs.lemmas.List.{append_cancel_right, drop_at, take_at}
use Rattle.std.proofs.lemmas.List.Elements.{All-nil}
use Rattle.sentry_json.specs.Balanced.{IsBalanced}
use Rattle.sentry_json.specs.Line.{newline}
use Rattle.sentry_framing.specs.Framing.{Reading, Frame, IsFirstFrame, IsLineAndBody, IsFramed, Opens, is_space}
use Rattle.sentry_framing.proofs.Verdicts.{frame_shorter, same_first}
use Rattle.sentry_forward.specs.Forward.{Piece, ArePieces, joined, kept, Leaves}

regroup : (space header payload next : List ℕ) → (space ++ (header ++ newline ∷ (payload ++ newline ∷ []))) ++ next ≡ space ++ (header ++ newline ∷ (payload ++ newline ∷ next))
regroup space header payload next =
    append_assoc space (header ++ newline ∷ (payload ++ newline ∷ [])) next
    ∙ ap (λ x. space ++ x) (append_assoc header (newline ∷ (payload ++ newline ∷ [])) next ∙ ap (λ x. header ++ newline ∷ x) (append_assoc payload (newline ∷ []) next))

pub front_is : (body front rest : List ℕ) → body ≡ front ++ rest → take (length body - length rest) body ≡ front
front_is body front rest e =
    let size : length front ≡ length body - length rest = omega (arith, ap length e, length-append front rest) in
    ap (take (length body - length rest)) e ∙ take_at front rest (length body - length rest) size

-- a balanced piece at the front opens a body
pub flat_opens : (body header after : List ℕ) → body ≡ header ++ after → IsBalanced header → Opens body (take (length body - length after) body) after
flat_opens body header after parts balanced = record {
  space = [];
  blank = All-nil (λ b. IsTrue (is_space b));
  balanced = subst IsBalanced (sym (front_is body header after parts)) balanced;
  parts = parts ∙ ap (λ x. x ++ after) (sym (front_is body header after parts));
}

pub back_is : (bytes front rest : List ℕ) → bytes ≡ front ++ rest → drop (length bytes - length rest) bytes ≡ rest
back_is bytes front rest e =
    let size : length front ≡ length bytes - length rest = omega (arith, ap length e, length-append front rest) in
    ap (drop (length bytes - length rest)) e ∙ drop_at front rest (length bytes - length rest) size

module _ (reads : Reading) where
  at_end : (bytes body next other : List ℕ) (f : Frame) → IsFirstFrame reads body f next → body ≡ bytes ++ next → next ≡ [] → other ≡ [] → IsFirstFrame reads (bytes ++ other) f other
  at_end bytes body next other f h parts nil none =
      let same : next ≡ other = nil ∙ sym none in
      subst (λ x. IsFirstFrame reads (bytes ++ x) f x) same (subst (λ x. IsFirstFrame reads x f next) parts h)

  -- other bytes may follow a frame that isn't the last
  moved : (bytes body next other : List ℕ) (f : Frame) → (h : IsFirstFrame reads body f next) → body ≡ bytes ++ next → (next ≡ [] → other ≡ []) → IsFirstFrame reads (bytes ++ other) f other
  moved bytes body next other f h parts ends = elim h.follows [
    | inl e ↦ at_end bytes body next other f h parts e.2 (ends e.2)
    | inr (inl e) ↦ at_end bytes body next other f h parts e.1 (ends e.1)
    | inr (inr e) ↦
        let whole : body ≡ (h.opens.space ++ (f.header ++ newline ∷ (f.payload ++ newline ∷ []))) ++ next =
        h.opens.parts ∙ ap (λ x. h.opens.space ++ (f.header ++ x)) e ∙ sym (regroup h.opens.space f.header f.payload next) in
        let own : bytes ≡ h.opens.space ++ (f.header ++ newline ∷ (f.payload ++ newline ∷ [])) =
        append_cancel_right bytes (h.opens.space ++ (f.header ++ newline ∷ (f.payload ++ newline ∷ []))) next (sym parts ∙ whole) in
        record {
          after = newline ∷ (f.payload ++ newline ∷ other);
          opens = record {
            space = h.opens.space;
            blank = h.opens.blank;
            balanced = h.opens.balanced;
            parts = ap (λ x. x ++ other) own ∙ regroup h.opens.space f.header f.payload other;
          };
          stated = h.stated;
          accepted = h.accepted;
          size = h.size;
          follows = inr (inr refl);
        }
  ]

  -- what follows a frame ends its body
  pub suffix : (body rest : List ℕ) (f : Frame) → (h : IsFirstFrame reads body f rest) → (front : List ℕ) × (body ≡ front ++ rest)
  suffix body rest f h = elim h.follows [
    | inl e ↦ (body, sym (ap (λ x. body ++ x) e.2 ∙ append-nil body))
    | inr (inl e) ↦ (body, sym (ap (λ x. body ++ x) e.1 ∙ append-nil body))
    | inr (inr e) ↦ (
      h.opens.space ++ (f.header ++ newline ∷ (f.payload ++ newline ∷ [])),
      h.opens.parts ∙ ap (λ x. h.opens.space ++ (f.header ++ x)) e ∙ sym (regroup h.opens.space f.header f.payload rest),
    )
  ]

  pub cut_front : (body rest : List ℕ) (f : Frame) → IsFirstFrame reads body f rest → body ≡ take (length body - length rest) body ++ rest
  cut_front body rest f h =
      let (front, e) = suffix body rest f h in
      e ∙ ap (λ x. x ++ rest) (sym (front_is body front rest e))

  pub frame_within : (body rest : List ℕ) (f : Frame) → IsFirstFrame reads body f rest → length rest ≤ length body
  frame_within body rest f h = let less = frame_shorter reads body f rest h in omega arith

  no_frame : (next : List ℕ) (f : Frame) → IsFirstFrame reads [] f next → ⊥
  no_frame next f h = let e = frame_shorter reads [] f next h in omega arith

  -- nothing is left of nothing
  none_left : (body : List ℕ) (pieces : List Piece) (answers : List Bool) → ArePieces reads body pieces → body ≡ [] → joined (kept pieces answers) ≡ []
  none_left body [] answers h nil = refl
  none_left body (p ∷ ps) answers (next, h, parts, more) nil = absurd (no_frame next p.frame (subst (λ x. IsFirstFrame reads x p.frame next) nil h))

  kept_pieces : (body : List ℕ) (pieces : List Piece) (answers : List Bool) → ArePieces reads body pieces → ArePieces reads (joined (kept pieces answers)) (kept pieces answers)
  kept_pieces body [] answers h = refl
  kept_pieces body (p ∷ ps) [] h = refl
  kept_pieces body (p ∷ ps) (true ∷ answers) (next, h, parts, more) =
      let rest : List ℕ = joined (kept ps answers) in
      (rest, moved p.bytes body next rest p.frame h parts (none_left next ps answers more), refl, kept_pieces next ps answers more)
  kept_pieces body (p ∷ ps) (false ∷ answers) (next, h, parts, more) = kept_pieces next ps answers more

  pub all_pieces : (body : List ℕ) (pieces : List Piece) → ArePieces reads body pieces → joined pieces ≡ body
  all_pieces body [] h = sym h
  all_pieces body (p ∷ ps) (next, h, parts, more) = ap (λ x. p.bytes ++ x) (all_pieces next ps more) ∙ sym parts

  frames_of : (body : List ℕ) (pieces : List Piece) → ArePieces reads body pieces → IsFramed reads body (map (λ p. p.frame) pieces)
  frames_of body [] h = h
  frames_of body (p ∷ ps) (next, h, parts, more) = (next, h, frames_of next ps more)

  -- a body consists of pieces in one way
  same_piece : (p q : Piece) (next : List ℕ) → p.frame ≡ q.frame → p.bytes ++ next ≡ q.bytes ++ next → p ≡ q
  same_piece p q next f e = ap₂ piece f (append_cancel_right p.bytes q.bytes next e)
    where
      piece : Frame → List ℕ → Piece
      piece frame bytes = record { frame = frame; bytes = bytes }

  pub same_pieces : (body : List ℕ) (ps qs : List Piece) → ArePieces reads body ps → ArePieces reads body qs → ps ≡ qs
  same_pieces body [] [] a b = refl
  same_pieces body [] (q ∷ qs) a (next, h, parts, more) = absurd (no_frame next q.frame (subst (λ x. IsFirstFrame reads x q.frame next) a h))
  same_pieces body (p ∷ ps) [] (next, h, parts, more) b = absurd (no_frame next p.frame (subst (λ x. IsFirstFrame reads x p.frame next) b h))
  same_pieces body (p ∷ ps) (q ∷ qs) (next, h, parts, more) (other, k, cut, rest) =
      let (frames, bodies) = same_first reads body p.frame q.frame next other h k in
      let tails = same_pieces next ps qs more (subst (λ x. ArePieces reads x qs) (sym bodies) rest) in
      let heads = same_piece p q next frames (sym parts ∙ cut ∙ ap (λ x. q.bytes ++ x) (sym bodies)) in
      ap₂ (λ x xs. x ∷ xs) heads tails

  -- ---- envelopes

  -- the header line ends alike where other bytes follow, if they are a body's that isn't empty
  moved_line : (front bytes line body other : List ℕ) → IsLineAndBody bytes line body → bytes ≡ front ++ body → (body ≡ [] → other ≡ []) → IsLineAndBody (front ++ other) line other
  moved_line front bytes line body other h parts ends = elim h.ends [
    | inl e ↦
        let same : body ≡ other = e.1 ∙ sym (ends e.1) in
        subst (λ x. IsLineAndBody (front ++ x) line x) same (subst (λ x. IsLineAndBody x line body) parts h)
    | inr e ↦
        let own : front ≡ line ++ newline ∷ [] =
        append_cancel_right front (line ++ newline ∷ []) body (sym parts ∙ h.parts ∙ ap (λ x. line ++ x) e ∙ sym (append_assoc line (newline ∷ []) body)) in
        record {
          after = newline ∷ other;
          no_newline = h.no_newline;
          parts = ap (λ x. x ++ other) own ∙ append_assoc line (newline ∷ []) other;
          ends = inr refl;
        }
  ]

  pub left_line : (bytes line : List ℕ) (pieces : List Piece) (answers : List Bool) (text : List ℕ) → Leaves reads bytes line pieces answers text
      → IsLineAndBody text line (joined (kept pieces answers))
  left_line bytes line pieces answers text h =
      let rest : List ℕ = joined (kept pieces answers) in
      subst (λ x. IsLineAndBody x line rest) (sym h.left) (moved_line h.front bytes line h.body rest h.header h.parts (none_left h.body pieces answers h.framed))

  pub left_pieces : (bytes line : List ℕ) (pieces : List Piece) (answers : List Bool) (text : List ℕ) → Leaves reads bytes line pieces answers text
      → ArePieces reads (joined (kept pieces answers)) (kept pieces answers)
  left_pieces bytes line pieces answers text h = kept_pieces h.body pieces answers h.framed

  pub left_frames : (bytes line : List ℕ) (pieces : List Piece) (answers : List Bool) (text : List ℕ) → Leaves reads bytes line pieces answers text
      → IsFramed reads (joined (kept pieces answers)) (map (λ p. p.frame) (kept pieces answers))
  left_frames bytes line pieces answers text h = frames_of (joined (kept pieces answers)) (kept pieces answers) (left_pieces bytes line pieces answers text h)

  -- where each piece is kept, so are the bytes
  pub whole_left : (bytes line : List ℕ) (pieces : List Piece) (answers : List Bool) (text : List ℕ) → Leaves reads bytes line pieces answers text → kept pieces answers ≡ pieces → text ≡ bytes
  whole_left bytes line pieces answers text h all =
      h.left ∙ ap (λ x. h.front ++ x) (ap joined all ∙ all_pieces h.body pieces h.framed) ∙ sym h.parts

-- ---- header lines

pub line_front : (bytes line body : List ℕ) → (h : IsLineAndBody bytes line body) → (front : List ℕ) × (bytes ≡ front ++ body)
line_front bytes line body h = elim h.ends [
  | inl e ↦ (bytes, sym (ap (λ x. bytes ++ x) e.1 ∙ append-nil bytes))
  | inr e ↦ (line ++ newline ∷ [], h.parts ∙ ap (λ x. line ++ x) e ∙ sym (append_assoc line (newline ∷ []) body))
]

pub body_front : (bytes line body : List ℕ) → IsLineAndBody bytes line body → bytes ≡ take (length bytes - length body) bytes ++ body
body_front bytes line body h = let (front, e) = line_front bytes line body h in e ∙ ap (λ x. x ++ body) (sym (front_is bytes front body e))

pub line_back : (bytes line body : List ℕ) → IsLineAndBody bytes line body → drop (length bytes - length body) bytes ≡ body
line_back bytes line body h = let (front, e) = line_front bytes line body h in back_is bytes front body e

pub body_within : (bytes line body : List ℕ) → IsLineAndBody bytes line body → length body ≤ length bytes
body_within bytes line body h = let (front, e) = line_front bytes line body h in omega (arith, ap length e, length-append front body)

-- nothing is left, by a test of its length
pub nothing_left : (rest other : List ℕ) (empty : Bool) → rest ≡ other → empty ≡ eqb (length rest) 0 → empty ≡ true → other ≡ []
nothing_left [] other empty same is full = sym same
nothing_left (x ∷ xs) other empty same is full =
    let short : length (x ∷ xs) ≡ 0 = (Decides-eqb (length (x ∷ xs)) 0).0 (sym is ∙ full) in
    let none : ⊥ = omega (arith, short) in
    absurd none
