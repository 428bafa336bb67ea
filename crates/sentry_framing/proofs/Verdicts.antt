-- A body has one verdict.
use Rattle.std.proofs.Common.{◌≡◌, inl, inr, ℕ, zero, suc, ◌<◌, ◌≤◌, List, [], ◌∷◌, ◌++◌, length, refl, sym, ◌∙◌, ap, ap₂, subst, length-append, arith}
use Rattle.sentry_json.specs.Balanced.{IsBalanced, braces}
use Rattle.sentry_json.specs.Line.{newline}
use Rattle.sentry_framing.specs.Framing.{Opens, Reading, Frame, Follows, IsFirstFrame, AreFrames, IsFault, Verdict, framed, at_fault, IsVerdict, HasOneVerdict}
use Rattle.sentry_framing.specs.declared.error.EnvelopeError.{EnvelopeError}
use Rattle.sentry_framing.proofs.Outcomes.{Outcome, frame, fault, IsOutcome, same_outcome, some_outcome}

-- ---- what follows a frame is shorter

follows_within : (after payload rest : List ℕ) → Follows after payload rest → length rest ≤ length after
follows_within after payload rest (inl (a, b, c)) = let r = ap length c in omega (arith, r)
follows_within after payload rest (inr (inl (a, c))) = let r = ap length c in omega (arith, r)
follows_within after payload rest (inr (inr a)) = omega (arith, ap length a, length-append payload (newline ∷ rest))

header_some : {h : List ℕ} → IsBalanced h → 0 < length h
header_some (braces {s} inside) = omega arith

opens_within : (body header after : List ℕ) → Opens body header after → length after < length body
opens_within body header after o =
    let some = header_some o.balanced in
    omega (arith, ap length o.parts, length-append o.space (header ++ after), length-append header after)

pub frame_shorter : (reads : Reading) (body : List ℕ) (f : Frame) (rest : List ℕ) → IsFirstFrame reads body f rest → length rest < length body
frame_shorter reads body f rest h =
    let a = opens_within body f.header h.after h.opens in
    let b = follows_within h.after f.payload rest h.follows in
    omega arith

module _ (reads : Reading) where
  abbrev NoFrame : List ℕ → Type 0
  NoFrame body = (f : Frame) (rest : List ℕ) → IsFirstFrame reads body f rest → ⊥

  none_of_nil : NoFrame []
  none_of_nil f rest h = let e = frame_shorter reads [] f rest h in omega arith

  none_at_fault : (body : List ℕ) (x : EnvelopeError) → IsFault reads body x → NoFrame body
  none_at_fault body x h f rest g = let e : fault x ≡ frame f rest = same_outcome reads body (fault x) (frame f rest) h g in cc

  frames_same : (f g : Frame) (r s : List ℕ) → frame f r ≡ frame g s → (f ≡ g) × (r ≡ s)
  frames_same f g r s e = (cc, cc)

  pub same_first : (body : List ℕ) (f g : Frame) (r s : List ℕ) → IsFirstFrame reads body f r → IsFirstFrame reads body g s → (f ≡ g) × (r ≡ s)
  same_first body f g r s a b = frames_same f g r s (same_outcome reads body (frame f r) (frame g s) a b)

  same_frames : (fs gs : List Frame) (body r s : List ℕ) → AreFrames reads body fs r → AreFrames reads body gs s → NoFrame r → NoFrame s → (fs ≡ gs) × (r ≡ s)
  same_frames [] [] body r s a b nr ns = (refl, sym a ∙ b)
  same_frames [] (g ∷ gs) body r s a (next, h, more) nr ns = absurd (nr g next (subst (λ x. IsFirstFrame reads x g next) a h))
  same_frames (f ∷ fs) [] body r s (next, h, more) b nr ns = absurd (ns f next (subst (λ x. IsFirstFrame reads x f next) b h))
  same_frames (f ∷ fs) (g ∷ gs) body r s (next, h, more) (other, k, rest) nr ns =
      let (heads, bodies) = same_first body f g next other h k in
      let (tails, ends) = same_frames fs gs next r s more (subst (λ x. AreFrames reads x gs s) (sym bodies) rest) nr ns in
      (ap₂ (λ x xs. x ∷ xs) heads tails, ends)

  -- ---- one verdict

  same_verdict : (body : List ℕ) (v w : Verdict) → IsVerdict reads body v → IsVerdict reads body w → v ≡ w
  same_verdict body (framed fs) (framed gs) a b = ap framed (same_frames fs gs body [] [] a b none_of_nil none_of_nil).0
  same_verdict body (framed fs) (at_fault x) a b =
      absurd (b.remains (sym (same_frames fs b.frames body [] b.rest a b.stand none_of_nil (none_at_fault b.rest x b.fault)).1))
  same_verdict body (at_fault x) (framed fs) a b =
      absurd (a.remains (same_frames a.frames fs body a.rest [] a.stand b (none_at_fault a.rest x a.fault) none_of_nil).1)
  same_verdict body (at_fault x) (at_fault y) a b =
      let (frames, rests) = same_frames a.frames b.frames body a.rest b.rest a.stand b.stand (none_at_fault a.rest x a.fault) (none_at_fault b.rest y b.fault) in
      let e : fault x ≡ fault y = same_outcome reads a.rest (fault x) (fault y) a.fault (subst (λ r. IsFault reads r y) (sym rests) b.fault) in
      ap at_fault (faults_same x y e)
    where
      faults_same : (x y : EnvelopeError) → fault x ≡ fault y → x ≡ y
      faults_same x y e = cc

  abbrev Some_verdict : List ℕ → Type 0
  Some_verdict body = (v : Verdict) × IsVerdict reads body v

  more_frames : (body : List ℕ) (f : Frame) (rest : List ℕ) → IsFirstFrame reads body f rest → (v : Verdict) → IsVerdict reads rest v → Some_verdict body
  more_frames body f rest h (framed fs) k = (framed (f ∷ fs), (rest, h, k))
  more_frames body f rest h (at_fault x) k =
      (at_fault x, record { frames = f ∷ k.frames; rest = k.rest; stand = (rest, h, k.stand); remains = k.remains; fault = k.fault })

  from_outcome : (b : ℕ) (body : List ℕ) → ((rest : List ℕ) → length rest < length (b ∷ body) → Some_verdict rest) → (o : Outcome) → IsOutcome reads (b ∷ body) o → Some_verdict (b ∷ body)
  from_outcome b body after (frame f rest) k =
      let (v, holds) = after rest (frame_shorter reads (b ∷ body) f rest k) in
      more_frames (b ∷ body) f rest k v holds
  from_outcome b body after (fault x) k =
      (at_fault x, record { frames = []; rest = b ∷ body; stand = refl; remains = λ e. cc; fault = k })

  some_verdict : (n : ℕ) (body : List ℕ) → length body ≤ n → Some_verdict body
  some_verdict n [] h = (framed [], refl)
  some_verdict zero (b ∷ body) h = absurd (omega arith)
  some_verdict (suc n) (b ∷ body) h =
      let (o, k) = some_outcome reads (b ∷ body) in
      from_outcome b body (λ rest less. some_verdict n rest (omega arith)) o k

  pub one_verdict : (body : List ℕ) → HasOneVerdict reads body
  one_verdict body =
      let (v, holds) = some_verdict (length body) body (omega arith) in
      record { verdict = v; holds = holds; only = λ w h. same_verdict body w v h holds }
