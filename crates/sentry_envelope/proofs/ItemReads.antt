-- What frames show, and what a reader of them has so far.
use Rattle.std.proofs.Common.{◌≡◌, ◌≢◌, ℕ, List, [], ◌∷◌, ◌++◌, refl, sym, ap, subst}
use Rattle.std.specs.Prelude.{◌↔◌, ⊤, map, Some, Result, Ok, Err, OnOk}
use Rattle.std.proofs.lemmas.List.{map-append}
use Rattle.sentry_tables.specs.Cell.{Cell}
use Rattle.sentry_tables.specs.Kind.{Kind}
use Rattle.sentry_tables.specs.Laws.{TextShows}
use Rattle.sentry_tables.specs.Reading.{ReadsText, ReadsTextAt, TextShown, TextRefused, TextShownAt, TextRefusedAt}
use Rattle.sentry_tables.specs.declared.error.TreeError.{TreeError}
use Rattle.sentry_tables.specs.declared.error.TreeError.TheVariants.{Misfit, Memory}
use Rattle.sentry_items.specs.View.{attachment_view}
use Rattle.sentry_items.specs.declared.attachment.Attachment.{Attachment}
use Rattle.sentry_items.specs.declared.replay_recording.ReplayRecording.{ReplayRecording}
use Rattle.sentry_items.specs.declared.item.EnvelopeItem.{EnvelopeItem}
use Rattle.sentry_items.specs.declared.item.EnvelopeItem.TheVariants as variants
use Rattle.sentry_framing.specs.Framing.{Frame, IsFirstFrame, IsFault}
use Rattle.sentry_framing.specs.HeaderView.{header_view}
use Rattle.sentry_framing.specs.ItemHeader.{Header, read_header, stated_length}
use Rattle.sentry_framing.specs.ItemWords.{item_words, kind_place}
use Rattle.sentry_framing.specs.declared.error.EnvelopeError.{EnvelopeError}
use Rattle.sentry_framing.specs.declared.error.EnvelopeError.TheVariants.{InvalidItemPayload}
use Rattle.sentry_framing.specs.declared.header.ItemHeader.{ItemHeader}
use Rattle.sentry_framing.specs.declared.kind.ItemKind.{ItemKind}
use Rattle.sentry_framing.specs.declared.kind.ItemKind.TheVariants as kinds
use Rattle.sentry_envelope.specs.EnvelopeFault.{BodyIsAtFault, FrameIsRefused}
use Rattle.sentry_envelope.specs.Envelope.{Content, item, attached, opaque, value, attached_by, IsValue, ContentShowsAt, ItemShows, ItemsStand}
use Rattle.sentry_envelope.specs.EnvelopeView.{item_view, placed}
use Rattle.sentry_envelope.specs.ItemAdded.{IsAdded, IsJson, IsOfKind, IsValueAdded}
use Rattle.sentry_envelope.specs.SentryProfile.{form_of, item_types, profile}
use Rattle.sentry_envelope.proofs.EnvelopeReading.{items_snoc, body_fault, framing_is_first, payload_is_first}
use Rattle.sentry_envelope.proofs.EnvelopeShown.{no_value, header_shows, frame_refused}
use Rattle.sentry_envelope.proofs.EnvelopeTypes.{shows_at}
use Rattle.sentry_envelope.proofs.SentryProfile.{profile_lawful, type_at}

module _ (frame : Frame) (h : ItemHeader) (read : read_header item_words frame.header ≡ Some (header_view h)) where
  -- the frame is of its header's item type
  pub of_kind : IsOfKind frame h.kind
  unfolding IsOfKind
  of_kind = (header_view h, read, refl)

  -- an attachment, or a recording, that comes behind the others is one that the frame shows
  pub attachment_added : h.kind ≡ kinds.Attachment → (now : Cell) (old new : List EnvelopeItem) (r : Result ⊤ EnvelopeError)
      → OnOk r ((a : Attachment) × (attachment_view a ≡ attached_by (header_view h) frame.payload) × (new ≡ old ++ variants.Attachment a ∷ [])) → OnOk r (IsAdded now frame old new)
  unfolding IsAdded profile
  attachment_added is now old new (Ok x) (a, same, more) = (variants.Attachment a, more, (header_view h, read, ap kind_place is, ap attached same))
  attachment_added is now old new (Err e) none = tt

  pub recording_added : h.kind ≡ kinds.ReplayRecording → (now : Cell) (old new : List EnvelopeItem) (r : Result ⊤ EnvelopeError)
      → OnOk r ((x : ReplayRecording) × (x.buffer.items ≡ frame.payload) × (new ≡ old ++ variants.ReplayRecording x ∷ [])) → OnOk r (IsAdded now frame old new)
  unfolding IsAdded profile
  recording_added is now old new (Ok x) (recording, same, more) = (variants.ReplayRecording recording, more, (header_view h, read, ap kind_place is, ap opaque same))
  recording_added is now old new (Err e) none = tt

-- ---- payloads of JSON

-- what is right at every moment is right at each
pub at_moment : {A : Type 0} (K : Kind) (f : A → Cell) (line : List ℕ) (read : Result A TreeError) (now : Cell) → ReadsText K f line read → ReadsTextAt now K f line read
unfolding TextShown TextRefused TextShownAt TextRefusedAt
at_moment K f line (Ok v) now shown = shown now
at_moment K f line (Err Misfit) now none = none now
at_moment K f line (Err Memory) now none = tt

module _ (frame : Frame) (k : ItemKind) (K : Kind) (kind : IsOfKind frame k) (fits : IsJson (form_of k) K) where
  -- the type's payloads show what JSON of the kind does
  shows_value : (now : Cell) (h : Header) (c : Content) → ContentShowsAt item_types (kind_place k) now h frame.payload c ↔ IsValue (TextShows K now frame.payload) c
  shows_value now h c = subst (λ X. X ↔ IsValue (TextShows K now frame.payload) c) (sym (shows_at (type_at k) now h frame.payload c)) (fits.same now h frame.payload c)

  -- a value of the type that it shows is an item that the frame shows
  pub value_added : (now c : Cell) (old new : List EnvelopeItem) → TextShownAt now K frame.payload c → IsValueAdded k c old new → IsAdded now frame old new
  unfolding profile TextShownAt IsOfKind IsAdded
  value_added now c old new shown (i, same, more) =
      let (h, read, place) = kind in
      let shows : ItemShows profile now frame (item (kind_place k) (value c)) = (h, read, place, (shows_value now h (value c)).1 shown) in
      (i, more, subst (λ v. ItemShows profile now frame (placed v)) (sym same) shows)

  -- where it shows none, the frame is refused
  pub value_refused : (now : Cell) → TextRefusedAt now K frame.payload → FrameIsRefused profile frame
  unfolding profile TextRefusedAt IsOfKind
  value_refused now none = frame_refused profile profile_lawful frame now (λ i shows.
      let (h, read, place) = kind in
      let (c, shown) = header_shows profile now frame h i read shows in
      let there = subst (λ n. ContentShowsAt item_types n now h frame.payload c) place shown in
      no_value (TextShows K now frame.payload) none c ((shows_value now h c).0 there))

-- ---- after items that stand

module _ (now : Cell) (body : List ℕ) (items : List EnvelopeItem) (rest : List ℕ) (stand : ItemsStand profile now body (map item_view items) rest) where
  pub framing_at_fault : (x : EnvelopeError) → rest ≢ [] → IsFault (stated_length item_words) rest x → BodyIsAtFault profile body x
  unfolding profile
  framing_at_fault x remains fault = body_fault profile profile_lawful now body (map item_view items) rest x stand remains (framing_is_first profile rest x fault)

  pub payload_at_fault : (frame : Frame) (next : List ℕ) → rest ≢ [] → IsFirstFrame (stated_length item_words) rest frame next → FrameIsRefused profile frame → BodyIsAtFault profile body InvalidItemPayload
  unfolding profile
  payload_at_fault frame next remains first refused =
      body_fault profile profile_lawful now body (map item_view items) rest InvalidItemPayload stand remains (payload_is_first profile rest frame next first refused)

  pub one_more : (frame : Frame) (next : List ℕ) (more : List EnvelopeItem) → IsFirstFrame (stated_length item_words) rest frame next → IsAdded now frame items more → ItemsStand profile now body (map item_view more) next
  unfolding profile IsAdded
  one_more frame next more first (i, is, shows) =
      rw (is, map-append item_view items (i ∷ [])) (items_snoc profile now (map item_view items) body rest next frame (item_view i) stand first shows)
