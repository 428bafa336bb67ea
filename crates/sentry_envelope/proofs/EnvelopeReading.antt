-- What a reader knows that goes frame by frame: the items so far, and what remains.
use Rattle.std.proofs.Common.{◌≢◌, inl, inr, ℕ, List, [], ◌∷◌, ◌++◌, refl, sym, subst}
use Rattle.sentry_tables.specs.Cell.{Cell}
use Rattle.sentry_framing.specs.Framing.{Frame, IsFirstFrame, IsFault}
use Rattle.sentry_envelope.specs.Profile.{Profile, ProfileLaws}
use Rattle.sentry_envelope.specs.Envelope.{Item, reads, ItemShows, ItemsStand}
use Rattle.sentry_envelope.specs.EnvelopeFault.{FrameIsRefused, IsFirstFault, BodyIsAtFault}
use Rattle.sentry_framing.specs.declared.error.EnvelopeError.{EnvelopeError}
use Rattle.sentry_framing.specs.declared.error.EnvelopeError.TheVariants.{InvalidItemPayload}
use Rattle.sentry_envelope.proofs.EnvelopeAnswers.{frames_of_items}

-- ---- one more item

pub items_snoc : (P : Profile) (now : Cell) (items : List Item) (body next rest : List ℕ) (frame : Frame) (i : Item)
    → ItemsStand P now body items next → IsFirstFrame (reads P) next frame rest → ItemShows P now frame i → ItemsStand P now body (items ++ i ∷ []) rest
items_snoc P now [] body next rest frame i are first shows = (frame, rest, subst (λ b. IsFirstFrame (reads P) b frame rest) (sym are) first, shows, refl)
items_snoc P now (j ∷ items) body next rest frame i (other, later, second, shown, more) first shows =
    (other, later, second, shown, items_snoc P now items later next rest frame i more first shows)

-- ---- faults of what remains

pub framing_is_first : (P : Profile) (rest : List ℕ) (x : EnvelopeError) → IsFault (reads P) rest x → IsFirstFault P rest x
framing_is_first P rest x h = inl h

pub payload_is_first : (P : Profile) (rest : List ℕ) (frame : Frame) (next : List ℕ) → IsFirstFrame (reads P) rest frame next → FrameIsRefused P frame
    → IsFirstFault P rest InvalidItemPayload
payload_is_first P rest frame next first refused = inr (refl, record { frame = frame; rest = next; first = first; refused = refused })

-- what is at fault after items that stand is at fault in the body
pub body_fault : (P : Profile) → ProfileLaws P → (now : Cell) (body : List ℕ) (items : List Item) (rest : List ℕ) (x : EnvelopeError)
    → ItemsStand P now body items rest → rest ≢ [] → IsFirstFault P rest x → BodyIsAtFault P body x
body_fault P owed now body items rest x stand remains first =
    let (fs, frames) = frames_of_items P owed now items body rest stand in
    record { frames = fs; rest = rest; stand = frames; remains = remains; fault = first }
