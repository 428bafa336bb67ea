-- The item of a frame by itself.
use Rattle.std.proofs.Common.{◌≡◌, ◌<◌, List, [], ◌∷◌, ◌++◌, length, Vec, Global, vec_len, Some, None, arith, refl, sym, ap, subst, ◌∙◌}
use Rattle.sentry_tables.specs.Cell.{Cell}
use Rattle.sentry_framing.specs.Framing.{Frame}
use Rattle.sentry_framing.specs.ItemHeader.{Header, read_header}
use Rattle.sentry_framing.specs.ItemWords.{item_words}
use Rattle.sentry_framing.specs.declared.error.EnvelopeError.{EnvelopeError}
use Rattle.sentry_framing.specs.declared.error.EnvelopeError.TheVariants.{UnexpectedEof, MissingHeader, MissingItemHeader, MissingNewline, InvalidHeader, InvalidItemHeader, InvalidItemPayload, OutOfMemory}
use Rattle.sentry_framing.proofs.StatedLengths.{states, states_none}
use Rattle.sentry_items.specs.declared.item.EnvelopeItem.{EnvelopeItem}
use Rattle.sentry_moments.specs.Moments.{moment_cell}
use Rattle.sentry_moments.specs.declared.moment.Moment.{Moment}
use Rattle.sentry_envelope.specs.Profile.{words}
use Rattle.sentry_envelope.specs.Envelope.{item, raw, reads, ItemShows}
use Rattle.sentry_envelope.specs.EnvelopeFault.{FrameIsRefused, IsItemFault}
use Rattle.sentry_envelope.specs.EnvelopeView.{AreStoredAndPlain, item_view}
use Rattle.sentry_envelope.specs.ItemAdded.{IsAdded}
use Rattle.sentry_envelope.specs.SentryProfile.{profile}
use Rattle.sentry_envelope.proofs.EnvelopeForms.{item_met}
use Rattle.sentry_envelope.proofs.SentryProfile.{profile_lawful}

only : {A : Type 0} (left : List A) (x y : A) → y ∷ [] ≡ left ++ x ∷ [] → y ≡ x
only [] x y is = cc
only (z ∷ []) x y is = absurd (cc)
only (z ∷ w ∷ left) x y is = absurd (cc)

-- where an item has come, one is there
pub some_there : (now : Cell) (frame : Frame) (new : Vec EnvelopeItem Global) → IsAdded now frame [] new.items → 0 < vec_len new
unfolding IsAdded
some_there now frame new (i, is, shows) = omega (arith, new.ok.0, ap (λ (items : List EnvelopeItem). length items) is)

-- the last item that is there, where one has come and there was none
pub alone_shown : (now : Cell) (frame : Frame) (new left : List EnvelopeItem) (i : EnvelopeItem) → IsAdded now frame [] new → new ≡ left ++ i ∷ [] → ItemShows profile now frame (item_view i)
unfolding IsAdded
alone_shown now frame new left i (j, is, shows) last = subst (λ (k : EnvelopeItem). ItemShows profile now frame (item_view k)) (only left i j (sym is ∙ last)) shows

pub alone_met : (now : Moment) (frame : Frame) (i : EnvelopeItem) → ItemShows profile (moment_cell now) frame (item_view i) → AreStoredAndPlain (item_view i ∷ [])
unfolding profile
alone_met now frame i shows = item_met profile profile_lawful (moment_cell now) (omega (arith, now.secs_in_range), now.nanos_in_range) frame (item_view i) shows

module _ (frame : Frame) where
  pub header_at_fault : read_header item_words frame.header ≡ None → IsItemFault profile frame InvalidItemHeader
  unfolding profile
  header_at_fault none = states_none item_words frame.header none

  pub payload_at_fault : (h : Header) → read_header item_words frame.header ≡ Some h → FrameIsRefused profile frame → IsItemFault profile frame InvalidItemPayload
  unfolding profile
  payload_at_fault h read refused = (rw (states item_words frame.header h read) refl, refused)

  -- a frame that is at fault shows no item
  unread : reads profile frame.header ≡ None → FrameIsRefused profile frame
  unread none now raw shows = shows
  unread none now (item n c) (h, read, kind, shown) = let stated = states (words profile.types) frame.header h read in absurd (cc)

  pub fault_refuses : (x : EnvelopeError) → IsItemFault profile frame x → FrameIsRefused profile frame
  fault_refuses InvalidItemHeader fault = unread fault
  fault_refuses InvalidItemPayload fault = fault.1
  fault_refuses UnexpectedEof fault = absurd fault
  fault_refuses MissingHeader fault = absurd fault
  fault_refuses MissingItemHeader fault = absurd fault
  fault_refuses MissingNewline fault = absurd fault
  fault_refuses InvalidHeader fault = absurd fault
  fault_refuses OutOfMemory fault = absurd fault
