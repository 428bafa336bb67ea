-- How frames are kept or dropped one after another.
use Rattle.std.proofs.Common.{◌≡◌, ◌&&◌, not, ℕ, suc, ◌+◌, ◌≤◌, ◌<◌, ◌-◌, Some, subst, Bool, true, false, List, Option, [], ◌∷◌, ◌++◌, map, length, get_or, take, drop, refl, sym, ◌∙◌, ap, append_assoc, append-nil, length-append, arith}
use Rattle.std.proofs.KnownBytes.{Appends-trans}
use Rattle.std.proofs.lemmas.List.{drop_at, drop_more}
use Rattle.std.specs.Io.KnownBytes.{Appends}
use Rattle.std.specs.Borrow.{Bor}
use Rattle.std.proofs.lemmas.List.Elements.{All-push}
use Rattle.sentry_framing.specs.Framing.{AreFrames, IsFirstFrame}
use Rattle.sentry_framing.specs.Sending.{AppendsFront}
use Rattle.sentry_framing.proofs.Sent.{front_of_first, front_of_second}
use Rattle.sentry_forward.specs.AnyHeader.{any_header, any_reading}
use Rattle.sentry_forward.specs.Forward.{ArePieces, Asked, dropped, joined, kept}
use Rattle.sentry_forward.specs.View.{AreNamed, Sorts, any_frame, is_attachment, joined_parts, piece_of, says, unless_orphaned}
use Rattle.sentry_forward.proofs.Left.{front_is}
use Rattle.sentry_forward.specs.declared.frames.AnyFrame.{AnyFrame}

-- ---- decisions

pub decided_next : (orphaned : Bool) (x : AnyFrame) (xs : List AnyFrame) (answer : Bool) (answers : List Bool)
    → unless_orphaned orphaned (x ∷ xs) (answer ∷ answers) ≡ (answer && not (orphaned && is_attachment x)) ∷ unless_orphaned orphaned xs answers
decided_next true x xs answer answers = refl
decided_next false x xs true answers = refl
decided_next false x xs false answers = refl

pub joined_snoc : (parts : List (Bor (List ℕ))) (part : Bor (List ℕ)) → joined_parts (parts ++ part ∷ []) ≡ joined_parts parts ++ part.now
joined_snoc [] part = append-nil part.now
joined_snoc (p ∷ ps) part = ap (λ x. p.now ++ x) (joined_snoc ps part) ∙ sym (append_assoc p.now (joined_parts ps) part.now)

-- ---- one step

-- the bytes that are left begin with those of a run of kept items, and the rest follows it
module _ (left rest x more after : List ℕ) (whole : (run : List ℕ) × (left ≡ run ++ rest)) (follow : rest ≡ x ++ more) (cut : after ≡ drop (length x) rest) where
  pub next_is : after ≡ more
  next_is = cut ∙ ap (drop (length x)) follow ∙ drop_at x more (length x) refl

  pub fits : length x ≤ length rest
  fits = omega (arith, ap length follow, length-append x more)

  pub run_more : (run : List ℕ) × (left ≡ run ++ after)
  run_more = (whole.0 ++ x, whole.1 ∙ ap (λ y. whole.0 ++ y) (follow ∙ ap (λ y. x ++ y) (sym next_is)) ∙ sym (append_assoc whole.0 x after))

  pub grows : take (length left - length after) left ≡ take (length left - length rest) left ++ x
  unfolding run_more
  grows = front_is left (whole.0 ++ x) after run_more.1 ∙ ap (λ y. y ++ x) (sym (front_is left whole.0 rest whole.1))

pub within : (left rest : List ℕ) → (run : List ℕ) × (left ≡ run ++ rest) → length rest ≤ length left
within left rest (run, e) = omega (arith, ap length e, length-append run rest)

module _ (x : AnyFrame) (items : List AnyFrame) (decisions : List Bool) (parts : List (Bor (List ℕ))) (left rest after : List ℕ) (gone : List AnyFrame) (text : List ℕ) (out : List AnyFrame)
    (whole : (run : List ℕ) × (left ≡ run ++ rest)) (follow : rest ≡ x.bytes.now ++ joined (map piece_of items)) (cut : after ≡ drop (length x.bytes.now) rest) where
  pub step_stays : Sorts items decisions (joined_parts parts ++ take (length left - length after) left) gone text out
      → Sorts (x ∷ items) (true ∷ decisions) (joined_parts parts ++ take (length left - length rest) left) gone text out
  step_stays h =
      let before : List ℕ = joined_parts parts ++ take (length left - length rest) left in
      let same = ap (λ y. joined_parts parts ++ y) (grows left rest x.bytes.now (joined (map piece_of items)) after whole follow cut) ∙ sym (append_assoc (joined_parts parts) (take (length left - length rest) left) x.bytes.now) in
      record {
        text_is = h.text_is ∙ ap (λ y. y ++ joined (kept (map piece_of items) decisions)) same ∙ append_assoc before x.bytes.now (joined (kept (map piece_of items) decisions));
        gone_are = h.gone_are;
      }

  pub step_goes : (all : List (Bor (List ℕ))) (part : Bor (List ℕ)) (now : List AnyFrame) → all ≡ parts ++ part ∷ [] → part.now ≡ take (length left - length rest) left → now ≡ gone ++ x ∷ []
      → Sorts items decisions (joined_parts all ++ take (length after - length after) after) now text out
      → Sorts (x ∷ items) (false ∷ decisions) (joined_parts parts ++ take (length left - length rest) left) gone text out
  step_goes all part now pushed is goes h =
      let same = ap (λ y. joined_parts all ++ y) (front_is after [] after refl) ∙ append-nil (joined_parts all) ∙ ap joined_parts pushed ∙ joined_snoc parts part ∙ ap (λ y. joined_parts parts ++ y) is in
      record {
        text_is = h.text_is ∙ ap (λ y. y ++ joined (kept (map piece_of items) decisions)) same;
        gone_are = h.gone_are ∙ ap (λ y. y ++ dropped items decisions) goes ∙ append_assoc gone (x ∷ []) (dropped items decisions);
      }

-- by the next answer
module _ (orphaned : Bool) (x : AnyFrame) (items : List AnyFrame) (answer : Bool) (told more : List Bool) (told_is : told ≡ answer ∷ more) where
  decision_is : (d : Bool) → d ≡ (answer && not (orphaned && is_attachment x)) → unless_orphaned orphaned (x ∷ items) told ≡ d ∷ unless_orphaned orphaned items more
  decision_is d is = ap (unless_orphaned orphaned (x ∷ items)) told_is ∙ decided_next orphaned x items answer more ∙ ap (λ c. c ∷ unless_orphaned orphaned items more) (sym is)

  module _ (parts : List (Bor (List ℕ))) (left rest after : List ℕ) (gone : List AnyFrame) (text : List ℕ) (out : List AnyFrame)
      (whole : (run : List ℕ) × (left ≡ run ++ rest)) (follow : rest ≡ x.bytes.now ++ joined (map piece_of items)) (cut : after ≡ drop (length x.bytes.now) rest) where
    pub next_stays : true ≡ (answer && not (orphaned && is_attachment x))
        → Sorts items (unless_orphaned orphaned items more) (joined_parts parts ++ take (length left - length after) left) gone text out
        → Sorts (x ∷ items) (unless_orphaned orphaned (x ∷ items) told) (joined_parts parts ++ take (length left - length rest) left) gone text out
    next_stays is h = subst (λ (ds : List Bool). Sorts (x ∷ items) ds (joined_parts parts ++ take (length left - length rest) left) gone text out) (sym (decision_is true is))
        (step_stays x items (unless_orphaned orphaned items more) parts left rest after gone text out whole follow cut h)

    pub next_goes : (all : List (Bor (List ℕ))) (part : Bor (List ℕ)) (now : List AnyFrame) → all ≡ parts ++ part ∷ [] → part.now ≡ take (length left - length rest) left → now ≡ gone ++ x ∷ []
        → false ≡ (answer && not (orphaned && is_attachment x))
        → Sorts items (unless_orphaned orphaned items more) (joined_parts all ++ take (length after - length after) after) now text out
        → Sorts (x ∷ items) (unless_orphaned orphaned (x ∷ items) told) (joined_parts parts ++ take (length left - length rest) left) gone text out
    next_goes all part now pushed part_is goes is h = subst (λ (ds : List Bool). Sorts (x ∷ items) ds (joined_parts parts ++ take (length left - length rest) left) gone text out) (sym (decision_is false is))
        (step_goes x items (unless_orphaned orphaned items more) parts left rest after gone text out whole follow cut all part now pushed part_is goes h)

pub last_step : (decisions : List Bool) (parts all : List (Bor (List ℕ))) (part : Bor (List ℕ)) (left rest : List ℕ) (gone : List AnyFrame)
    → all ≡ parts ++ part ∷ [] → part.now ≡ left → rest ≡ []
    → Sorts [] decisions (joined_parts parts ++ take (length left - length rest) left) gone (joined_parts all) gone
last_step decisions parts all part left rest gone pushed is nil =
    let whole : take (length left - length rest) left ≡ left = front_is left left rest (sym (append-nil left) ∙ ap (λ y. left ++ y) (sym nil)) in
    record {
      text_is = ap joined_parts pushed ∙ joined_snoc parts part ∙ ap (λ y. joined_parts parts ++ y) (is ∙ sym whole) ∙ sym (append-nil (joined_parts parts ++ take (length left - length rest) left));
      gone_are = sym (append-nil gone);
    }

-- one more part is sent
pub part_sent : (old mid new : Option (List ℕ)) (parts : List (Bor (List ℕ))) (i : ℕ) (d : Bor (List ℕ)) (text : List ℕ) → i < length parts
    → (front : List ℕ) × (text ≡ front ++ joined_parts (drop i parts)) × Appends old mid front → Appends mid new (get_or parts i d).now
    → (front : List ℕ) × (text ≡ front ++ joined_parts (drop (i + 1) parts)) × Appends old new front
part_sent old mid new parts i d text more (front, is, sent) next =
    let part : List ℕ = (get_or parts i d).now in
    (front ++ part, is ∙ ap (λ x. front ++ joined_parts x) (drop_more parts i d more) ∙ sym (append_assoc front part (joined_parts (drop (i + 1) parts))), Appends-trans old mid new front part sent next)

-- a part is sent in part
pub part_fails : (old mid new : Option (List ℕ)) (parts : List (Bor (List ℕ))) (i : ℕ) (d : Bor (List ℕ)) (text : List ℕ) → i < length parts
    → (front : List ℕ) × (text ≡ front ++ joined_parts (drop i parts)) × Appends old mid front → AppendsFront mid new (get_or parts i d).now
    → AppendsFront old new text
part_fails old mid new parts i d text more (front, is, sent) failed =
    let part : List ℕ = (get_or parts i d).now in
    let behind : List ℕ = joined_parts (drop (i + 1) parts) in
    let whole : text ≡ front ++ (part ++ behind) = is ∙ ap (λ x. front ++ joined_parts x) (drop_more parts i d more) in
    subst (λ t. AppendsFront old new t) (append_assoc front part behind ∙ sym whole) (front_of_first old new (front ++ part) behind (front_of_second old mid new front part sent failed))

-- ---- one more frame is asked about

pub asked_more : {F : Type 0} (ask : F → AnyFrame → Bool → F → Type 0) (first : F) (frames left rest : List AnyFrame) (x : AnyFrame) (now next : F) (answer : Bool) (answers all : List Bool)
    → ((others : List Bool) (last : F) → Asked ask now left others last → Asked ask first frames (answers ++ others) last)
    → left ≡ x ∷ rest → ask now x answer next → all ≡ answers ++ answer ∷ []
    → (others : List Bool) (last : F) → Asked ask next rest others last → Asked ask first frames (all ++ others) last
asked_more {F} ask first frames left rest x now next answer answers all goes_on is asked pushed others last h =
    let one : Asked ask now left (answer ∷ others) last = subst (λ (l : List AnyFrame). Asked ask now l (answer ∷ others) last) (sym is) (next, asked, h) in
    subst (λ (l : List Bool). Asked ask first frames l last) (sym (append_assoc answers (answer ∷ []) others) ∙ ap (λ l. l ++ others) (sym pushed)) (goes_on (answer ∷ others) last one)

pub as_many : {F : Type 0} (ask : F → AnyFrame → Bool → F → Type 0) (first : F) (frames : List AnyFrame) (answers : List Bool) (last : F) → Asked ask first frames answers last → length answers ≡ length frames
as_many ask first [] [] last h = refl
as_many ask first [] (b ∷ bs) last h = absurd h
as_many ask first (x ∷ xs) [] last h = absurd h
as_many ask first (x ∷ xs) (b ∷ bs) last (next, asked, h) = ap suc (as_many ask next xs bs last h)

-- ---- one more frame is read

pub stand_more : (body : List ℕ) (xs : List AnyFrame) (x : AnyFrame) (rest next : List ℕ) → AreFrames any_reading body (map any_frame xs) rest → IsFirstFrame any_reading rest (any_frame x) next → AreFrames any_reading body (map any_frame (xs ++ x ∷ [])) next
stand_more body [] x rest next h first = (next, subst (λ y. IsFirstFrame any_reading y (any_frame x) next) (sym h) first, refl)
stand_more body (y ∷ ys) x rest next (n, f, more) first = (n, f, stand_more n ys x rest next more first)

pub pieces_more : (body : List ℕ) (xs : List AnyFrame) (x : AnyFrame) (rest next : List ℕ)
    → ((more : List AnyFrame) → ArePieces any_reading rest (map piece_of more) → ArePieces any_reading body (map piece_of (xs ++ more)))
    → IsFirstFrame any_reading rest (any_frame x) next → rest ≡ x.bytes.now ++ next
    → (more : List AnyFrame) → ArePieces any_reading next (map piece_of more) → ArePieces any_reading body (map piece_of ((xs ++ x ∷ []) ++ more))
pieces_more body xs x rest next goes_on first parts more h =
    subst (λ (ys : List AnyFrame). ArePieces any_reading body (map piece_of ys)) (sym (append_assoc xs (x ∷ []) more)) (goes_on (x ∷ more) (next, first, parts, h))

pub named_more : (xs : List AnyFrame) (x : AnyFrame) → AreNamed xs → any_header x.header.now ≡ Some (says x) → AreNamed (xs ++ x ∷ [])
named_more xs x h is = All-push (λ (item : AnyFrame). any_header item.header.now ≡ Some (says item)) xs x h is
