-- Bytes spell an envelope, or one error is at fault, and not both.
use Rattle.std.proofs.Common.{◌≡◌, ◌≢◌, ◌⊎◌, inl, inr, ℕ, List, [], ◌∷◌, refl, sym, ◌∙◌, subst, IsTrue}
use Rattle.std.proofs.lemmas.List.Elements.{All-nil}
use Rattle.sentry_tables.specs.Cell.{Cell}
use Rattle.sentry_tables.specs.Laws.{TextShows}
use Rattle.sentry_framing.specs.Framing.{is_space, Frame, IsFirstFrame, AreFrames, IsFault, Verdict, framed, at_fault, IsVerdict, IsLineAndBody}
use Rattle.sentry_envelope.specs.Profile.{Profile, ProfileLaws}
use Rattle.sentry_envelope.specs.Envelope.{Item, Envelope, reads, ItemsStand, first_id, Spells}
use Rattle.sentry_envelope.specs.EnvelopeFault.{LineStands, LineIsRefused, FrameStands, FrameIsRefused, FramesStand, IsFirstFault, BodyIsAtFault, Fault}
use Rattle.sentry_envelope.specs.EnvelopeLaws.{HasOneAnswer}
use Rattle.sentry_framing.specs.declared.error.EnvelopeError.{EnvelopeError}
use Rattle.sentry_framing.specs.declared.error.EnvelopeError.TheVariants.{InvalidHeader, InvalidItemPayload}
use Rattle.sentry_framing.proofs.Opening.{not_blank}
use Rattle.sentry_framing.proofs.Outcomes.{frame, fault, same_outcome}
use Rattle.sentry_framing.proofs.Verdicts.{same_first, one_verdict}
use Rattle.sentry_framing.proofs.EnvelopeLine.{same_line, some_line}
use Rattle.sentry_envelope.proofs.EnvelopeShown.{line_sorted, line_not_both, frame_sorted, frame_stands, frame_not_both}

-- ---- one first fault

module _ (P : Profile) where
  pub no_frame_at_fault : (body : List ℕ) (x : EnvelopeError) (f : Frame) (rest : List ℕ) → IsFault (reads P) body x → IsFirstFrame (reads P) body f rest → ⊥
  no_frame_at_fault body x f rest h g = let e : fault x ≡ frame f rest = same_outcome (reads P) body (fault x) (frame f rest) h g in cc

  same_framing_fault : (body : List ℕ) (x y : EnvelopeError) → IsFault (reads P) body x → IsFault (reads P) body y → x ≡ y
  same_framing_fault body x y g h = let e : fault x ≡ fault y = same_outcome (reads P) body (fault x) (fault y) g h in cc

  same_first_fault : (body : List ℕ) (x y : EnvelopeError) → IsFirstFault P body x → IsFirstFault P body y → x ≡ y
  same_first_fault body x y (inl g) (inl h) = same_framing_fault body x y g h
  same_first_fault body x y (inl g) (inr (e, h)) = absurd (no_frame_at_fault body x h.frame h.rest g h.first)
  same_first_fault body x y (inr (e, g)) (inl h) = absurd (no_frame_at_fault body y g.frame g.rest h g.first)
  same_first_fault body x y (inr (e, g)) (inr (is, h)) = e ∙ sym is

  -- ---- where frames stop

  -- no first frame of the body stands in all checks
  abbrev Stops : List ℕ → Type 0
  Stops body = (f : Frame) (next : List ℕ) → IsFirstFrame (reads P) body f next → FrameStands P f → ⊥

  no_frame_of_nil : (f : Frame) (next : List ℕ) → IsFirstFrame (reads P) [] f next → ⊥
  no_frame_of_nil f next h = not_blank [] f.header h.after h.opens (All-nil (λ b. IsTrue (is_space b)))

  -- where a frame stands, bytes remain
  pub some_remain : (body : List ℕ) (f : Frame) (next : List ℕ) → IsFirstFrame (reads P) body f next → body ≢ []
  some_remain body f next first nil = no_frame_of_nil f next (subst (λ b. IsFirstFrame (reads P) b f next) nil first)

  stops_at_end : Stops []
  stops_at_end f next first stands = no_frame_of_nil f next first

  stops_at_fault : (body : List ℕ) (x : EnvelopeError) → IsFirstFault P body x → Stops body
  stops_at_fault body x (inl h) f next first stands = no_frame_at_fault body x f next h first
  stops_at_fault body x (inr (e, h)) f next first stands =
      let (same, rests) = same_first (reads P) body f h.frame next h.rest first h.first in
      frame_not_both P h.frame (subst (FrameStands P) same stands) h.refused

  same_stop : (fs gs : List Frame) (body r s : List ℕ) → FramesStand P body fs r → FramesStand P body gs s → Stops r → Stops s → r ≡ s
  same_stop [] [] body r s a b nr ns = sym a ∙ b
  same_stop [] (g ∷ gs) body r s a (next, first, stands, more) nr ns = absurd (nr g next (subst (λ x. IsFirstFrame (reads P) x g next) a first) stands)
  same_stop (f ∷ fs) [] body r s (next, first, stands, more) b nr ns = absurd (ns f next (subst (λ x. IsFirstFrame (reads P) x f next) b first) stands)
  same_stop (f ∷ fs) (g ∷ gs) body r s (next, first, stands, more) (other, second, stand, others) nr ns =
      let (frames, bodies) = same_first (reads P) body f g next other first second in
      same_stop fs gs next r s more (subst (λ x. FramesStand P x gs s) (sym bodies) others) nr ns

  same_body_fault : (body : List ℕ) (x y : EnvelopeError) → BodyIsAtFault P body x → BodyIsAtFault P body y → x ≡ y
  same_body_fault body x y g h =
      let rests = same_stop g.frames h.frames body g.rest h.rest g.stand h.stand (stops_at_fault g.rest x g.fault) (stops_at_fault h.rest y h.fault) in
      same_first_fault h.rest x y (subst (λ r. IsFirstFault P r x) rests g.fault) h.fault

  whole_or_at_fault : (fs : List Frame) (body : List ℕ) (x : EnvelopeError) → FramesStand P body fs [] → BodyIsAtFault P body x → ⊥
  whole_or_at_fault fs body x stand h = h.remains (same_stop h.frames fs body h.rest [] h.stand stand (stops_at_fault h.rest x h.fault) stops_at_end)

  -- the checks of a header line and a body
  abbrev IsCheck : List ℕ → List ℕ → EnvelopeError → Type 0
  IsCheck line body x = ((x ≡ InvalidHeader) × LineIsRefused P.header line) ⊎ (LineStands P.header line × BodyIsAtFault P body x)

  same_check : (line body : List ℕ) (x y : EnvelopeError) → IsCheck line body x → IsCheck line body y → x ≡ y
  same_check line body x y (inl g) (inl h) = g.0 ∙ sym h.0
  same_check line body x y (inl g) (inr h) = absurd (line_not_both P.header line h.0 g.1)
  same_check line body x y (inr g) (inl h) = absurd (line_not_both P.header line g.0 h.1)
  same_check line body x y (inr g) (inr h) = same_body_fault body x y g.1 h.1

  -- bytes have one fault at most
  pub same_fault : (bytes : List ℕ) (x y : EnvelopeError) → Fault P bytes x → Fault P bytes y → x ≡ y
  same_fault bytes x y g h =
      let (lines, bodies) = same_line bytes g.line g.body h.line h.body g.parts h.parts in
      same_check h.line h.body x y (subst (λ b. IsCheck h.line b x) bodies (subst (λ l. IsCheck l g.body x) lines g.first)) h.first

  -- ---- frames and items

  -- frames that stand show items, at each moment
  pub items_of_frames : (now : Cell) (fs : List Frame) (body rest : List ℕ) → FramesStand P body fs rest → (items : List Item) × ItemsStand P now body items rest
  items_of_frames now [] body rest h = ([], h)
  items_of_frames now (f ∷ fs) body rest (next, first, stands, more) =
      let (i, shows) = stands now in
      let (items, others) = items_of_frames now fs next rest more in
      (i ∷ items, (f, next, first, shows, others))

module _ (P : Profile) (owed : ProfileLaws P) where
  -- and items that are shown stand in frames
  pub frames_of_items : (now : Cell) (items : List Item) (body rest : List ℕ) → ItemsStand P now body items rest → (fs : List Frame) × FramesStand P body fs rest
  frames_of_items now [] body rest h = ([], h)
  frames_of_items now (i ∷ items) body rest (f, next, first, shows, more) =
      let (fs, others) = frames_of_items now items next rest more in
      (f ∷ fs, (next, first, frame_stands P owed f now i shows, others))

  -- ---- one answer of a body

  abbrev BodyAnswer : List ℕ → Type 0
  BodyAnswer body = ((fs : List Frame) × FramesStand P body fs []) ⊎ ((x : EnvelopeError) × BodyIsAtFault P body x)

  after_frame : (body : List ℕ) (f : Frame) (next : List ℕ) → IsFirstFrame (reads P) body f next → FrameStands P f → BodyAnswer next → BodyAnswer body
  after_frame body f next first stands (inl (fs, more)) = inl (f ∷ fs, (next, first, stands, more))
  after_frame body f next first stands (inr (x, h)) =
      inr (x, record { frames = f ∷ h.frames; rest = h.rest; stand = (next, first, stands, h.stand); remains = h.remains; fault = h.fault })

  refused_payload : (body : List ℕ) (f : Frame) (next : List ℕ) → IsFirstFrame (reads P) body f next → FrameIsRefused P f → BodyAnswer body
  refused_payload body f next first refused =
      inr (
        InvalidItemPayload,
        record {
          frames = [];
          rest = body;
          stand = refl;
          remains = some_remain P body f next first;
          fault = inr (refl, record { frame = f; rest = next; first = first; refused = refused });
        },
      )

  -- of frames that stand in their framing, all stand in all checks, or one payload is refused
  frames_sorted : (fs : List Frame) (body rest : List ℕ) → AreFrames (reads P) body fs rest → BodyAnswer rest → BodyAnswer body
  frames_sorted [] body rest h answer = subst BodyAnswer (sym h) answer
  frames_sorted (f ∷ fs) body rest (next, first, more) answer = elim (frame_sorted P owed f) [
    | inl stands ↦ after_frame body f next first stands (frames_sorted fs next rest more answer)
    | inr refused ↦ refused_payload body f next first refused
  ]

  by_verdict : (body : List ℕ) (v : Verdict) → IsVerdict (reads P) body v → BodyAnswer body
  by_verdict body (framed fs) h = frames_sorted fs body [] h (inl ([], refl))
  by_verdict body (at_fault x) h =
      frames_sorted h.frames body h.rest h.stand (inr (x, record { frames = []; rest = h.rest; stand = refl; remains = h.remains; fault = inl h.fault }))

  body_answer : (body : List ℕ) → BodyAnswer body
  body_answer body = let v = one_verdict (reads P) body in by_verdict body v.verdict v.holds

  -- ---- one answer of an envelope's bytes

  shown_or_refused : (line body : List ℕ) (x : EnvelopeError) (now c : Cell) (fs : List Frame) → TextShows P.header now line c → FramesStand P body fs [] → IsCheck P line body x → ⊥
  shown_or_refused line body x now c fs shows stand (inl h) = h.1 now c shows
  shown_or_refused line body x now c fs shows stand (inr h) = whole_or_at_fault P fs body x stand h.1

  -- what spells an envelope is not at fault
  pub spelled_or_at_fault : (bytes : List ℕ) (now : Cell) (e : Envelope) (x : EnvelopeError) → Spells P bytes now e → Fault P bytes x → ⊥
  spelled_or_at_fault bytes now e x s h =
      let (lines, bodies) = same_line bytes s.line s.body h.line h.body s.parts h.parts in
      let (fs, stand) = frames_of_items now e.items s.body [] s.items in
      let shows : TextShows P.header now h.line s.shown = subst (λ l. TextShows P.header now l s.shown) lines s.line_shows in
      shown_or_refused h.line h.body x now s.shown fs shows (subst (λ b. FramesStand P b fs []) bodies stand) h.first

  abbrev Answer : List ℕ → Cell → Type 0
  Answer bytes now = ((e : Envelope) × Spells P bytes now e) ⊎ ((x : EnvelopeError) × Fault P bytes x)

  answer_of : (bytes line body : List ℕ) (now : Cell) → IsLineAndBody bytes line body → LineStands P.header line → BodyAnswer body → Answer bytes now
  answer_of bytes line body now parts stands (inl (fs, stand)) =
      let (shown, shows) = stands now in
      let (items, are) = items_of_frames P now fs body [] stand in
      inl (
        record { header = P.fill (first_id P.types items) shown; items = items },
        record { line = line; body = body; shown = shown; parts = parts; line_shows = shows; header = refl; items = are },
      )
  answer_of bytes line body now parts stands (inr (x, h)) = inr (x, record { line = line; body = body; parts = parts; first = inr (stands, h) })

  some_answer : (bytes : List ℕ) (now : Cell) → Answer bytes now
  some_answer bytes now =
      let (line, body, parts) = some_line bytes in
      elim (line_sorted P.header owed.header line) [
        | inl stands ↦ answer_of bytes line body now parts stands (body_answer body)
        | inr refused ↦ inr (InvalidHeader, record { line = line; body = body; parts = parts; first = inl (refl, refused) })
      ]

  -- for each byte list exactly one holds: some envelope is spelled, or one error is at fault
  pub one_answer : HasOneAnswer P
  one_answer bytes now = elim (some_answer bytes now) [
    | inl s ↦ inl (s, λ x h. spelled_or_at_fault bytes now s.0 x s.1 h)
    | inr f ↦ inr (record { error = f.0; holds = f.1; only = λ x h. same_fault P bytes x f.0 h f.1; unspelled = λ e s. spelled_or_at_fault bytes now e f.0 s f.1 })
  ]
