-- Nothing is drawn in the text of an envelope.
use Rattle.std.proofs.Common.{◌≡◌, ℕ, List, [], ◌∷◌, Some, sym, ap, ◌∙◌, subst}
use Rattle.std.proofs.lemmas.List.Elements.{All-nil, All-cons}
use Rattle.std.proofs.lemmas.Option.{same_Some}
use Rattle.std.specs.Prelude.{⊤}
use Rattle.std.specs.List.{All}
use Rattle.serde_json.specs.Written.{compact_text}
use Rattle.sentry_tables.specs.Cell.{absent}
use Rattle.sentry_tables.specs.Drawn.{NothingDrawnInText}
use Rattle.sentry_tables.specs.Written.{tree}
use Rattle.sentry_tables.proofs.Laws.{text_draws_nothing}
use Rattle.sentry_framing.specs.Framing.{Frame, IsFirstFrame, AreFrames}
use Rattle.sentry_framing.specs.ItemHeader.{Header}
use Rattle.sentry_framing.proofs.Verdicts.{same_first}
use Rattle.sentry_framing.proofs.Written.{line_read}
use Rattle.sentry_envelope.specs.Profile.{Form, attachment_form, opaque_form, json_form, container_form, FormIsLawful, ItemType, Profile, ProfileLaws}
use Rattle.sentry_items.specs.Containers.{container_kind}
use Rattle.sentry_envelope.specs.Envelope.{Content, value, Item, item, raw, reads, payload_by, frame_by, frame_at, frame_text, items_text, envelope_text, stored_content, plain_content, readable_content, ContentMeets, ContentMeetsAt, ItemsMeet, ItemsAreSized, IsEnvelopeStored, IsEnvelopePlain, IsEnvelopeReadable, IsEnvelopeSized}
use Rattle.sentry_envelope.specs.OneEnvelope.{PayloadDrawsNothing, PayloadDrawsNothingAt, FrameDrawsNothing, TextsDrawNothing}
use Rattle.sentry_envelope.proofs.EnvelopeItems.{IsItemBack, item_back, none_of_nothing}
use Rattle.sentry_framing.proofs.EnvelopeLine.{same_line}
use Rattle.sentry_items.proofs.Containers.{container_lawful}
use Rattle.sentry_envelope.proofs.EnvelopeTypes.{IsAt, has_at, type_met, meets_at, frame_is, lawful_at}

-- ---- one item

payload_drawn : (f : Form) (c : Content) → FormIsLawful f → ContentMeets stored_content f c → ContentMeets plain_content f c → ContentMeets readable_content f c → PayloadDrawsNothing f (payload_by f c)
payload_drawn attachment_form c laws s p r = tt
payload_drawn opaque_form c laws s p r = tt
payload_drawn (json_form K) (value c) laws s p r = text_draws_nothing K laws c s p r.1
payload_drawn (json_form K) _ laws s p r = absurd s
payload_drawn (container_form content_type K) (value c) laws s p r = text_draws_nothing (container_kind K) (container_lawful K laws.0) c s p r.1
payload_drawn (container_form content_type K) _ laws s p r = absurd s

drawn_at : {ts : List ItemType} {n : ℕ} {t : ItemType} → IsAt ts n t → (payload : List ℕ) → PayloadDrawsNothingAt ts n payload ≡ PayloadDrawsNothing t.form payload
drawn_at at payload = has_at at ⊤ (λ t. PayloadDrawsNothing t.form payload)

module _ (P : Profile) (laws : ProfileLaws P) where
  place_drawn : (n : ℕ) (c : Content) (frame : Frame) → frame_at P.types n c ≡ Some frame
      → ContentMeetsAt stored_content P.types n c → ContentMeetsAt plain_content P.types n c → ContentMeetsAt readable_content P.types n c → PayloadDrawsNothingAt P.types n frame.payload
  place_drawn n c frame is s p r =
      let (t, at) = type_met stored_content P.types n c s in
      let own = lawful_at at P.header P.fill laws.types in
      let same : frame_by t c ≡ frame = same_Some (frame_by t c) frame (sym (frame_is at c) ∙ is) in
      let here = payload_drawn t.form c own.form (subst (λ X. X) (meets_at at stored_content c) s) (subst (λ X. X) (meets_at at plain_content c) p) (subst (λ X. X) (meets_at at readable_content c) r) in
      subst (λ (f : Frame). PayloadDrawsNothingAt P.types n f.payload) same (subst (λ X. X) (sym (drawn_at at (payload_by t.form c))) here)

  frame_drawn : (n : ℕ) (c : Content) → (own : IsItemBack P n c absent) → PayloadDrawsNothingAt P.types n own.frame.payload → FrameDrawsNothing P own.frame
  frame_drawn n c own nothing h read =
      let (g, again, place, shows) = own.shows in
      let kind : h.kind ≡ n = ap (λ (y : Header). y.kind) (same_Some h g (sym read ∙ again)) ∙ place in
      subst (λ k. PayloadDrawsNothingAt P.types k own.frame.payload) (sym kind) nothing

  -- ---- items

  items_drawn : (items : List Item) → ItemsMeet stored_content P.types items → ItemsMeet plain_content P.types items → ItemsMeet readable_content P.types items → ItemsAreSized P.types items
      → (frames : List Frame) → AreFrames (reads P) (items_text P items) frames [] → All (FrameDrawsNothing P) frames
  items_drawn items s p r sized [] framed = All-nil (FrameDrawsNothing P)
  items_drawn [] s p r sized (f ∷ frames) (next, stands, more) = absurd (none_of_nothing (reads P) f next stands)
  items_drawn (item n c ∷ items) s p r sized (f ∷ frames) (next, stands, more) =
      let own = item_back P laws absent n c s.0 p.0 r.0 sized.0 in
      let written : IsFirstFrame (reads P) (items_text P (item n c ∷ items)) own.frame (items_text P items) =
      subst (λ o. IsFirstFrame (reads P) (frame_text o (items_text P items)) own.frame (items_text P items)) (sym own.is) (own.first (items_text P items)) in
      let (heads, bodies) = same_first (reads P) (items_text P (item n c ∷ items)) f own.frame next (items_text P items) stands written in
      let here = frame_drawn n c own (place_drawn n c own.frame own.is s.0 p.0 r.0) in
      All-cons (FrameDrawsNothing P) f frames (subst (FrameDrawsNothing P) (sym heads) here)
      (items_drawn items s.1 p.1 r.1 sized.1 frames (subst (λ body. AreFrames (reads P) body frames []) bodies more))
  items_drawn (raw ∷ items) s p r sized (f ∷ frames) framed = items_drawn items s p r sized (f ∷ frames) framed

  -- ---- envelopes

  pub texts_draw_nothing : TextsDrawNothing P
  unfolding envelope_text IsEnvelopeStored IsEnvelopePlain IsEnvelopeReadable IsEnvelopeSized
  texts_draw_nothing e s p r sized =
      let written = line_read (tree P.header e.header) (items_text P e.items) in
      record {
        header = λ line body parts.
            let (lines, bodies) = same_line (envelope_text P e) line body (compact_text (tree P.header e.header)) (items_text P e.items) parts written in
            subst (NothingDrawnInText P.header) (sym lines) (text_draws_nothing P.header laws.header e.header s.0 p.0 r.1);
        items = λ line body frames parts framed.
            let (lines, bodies) = same_line (envelope_text P e) line body (compact_text (tree P.header e.header)) (items_text P e.items) parts written in
            items_drawn e.items s.1 p.1 r.2 sized frames (subst (λ b. AreFrames (reads P) b frames []) bodies framed);
      }
