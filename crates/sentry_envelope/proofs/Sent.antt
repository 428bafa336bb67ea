-- The text of an envelope, item by item, and demands on items, item by item.
use Rattle.std.proofs.Common.{◌≡◌, ◌+◌, ◌<◌, ℕ, suc, length, get_or, drop, drop-cons, add-one, List, [], ◌∷◌, ◌++◌, Option, Some, None, Result, Ok, Err, false, refl, sym, ap, ◌∙◌, subst, append_assoc, append-nil}
use Rattle.std.specs.Prelude.{codes, map, OnOk}
use Rattle.std.proofs.lemmas.Option.{same_Some}
use Rattle.serde_json.specs.Data.{Data, Members}
use Rattle.serde_json.specs.Written.{compact_text, has_float}
use Rattle.sentry_json.proofs.Sound.{sound_without_float}
use Rattle.sentry_json.specs.Line.{newline}
use Rattle.sentry_tables.specs.Passed.{count}
use Rattle.sentry_tables.specs.Cell.{Cell}
use Rattle.sentry_tables.specs.Kind.{Kind}
use Rattle.sentry_tables.specs.Written.{tree}
use Rattle.sentry_tables.proofs.Laws.{has_laws}
use Rattle.sentry_tables.specs.Cells.{cells}
use Rattle.sentry_framing.specs.Framing.{Frame, with_line}
use Rattle.sentry_framing.specs.ItemWords.{kind_place, kind_word}
use Rattle.sentry_framing.specs.declared.kind.ItemKind.{ItemKind}
use Rattle.sentry_framing.specs.declared.kind.ItemKind.TheVariants as kinds
use Rattle.sentry_records.specs.Logs.{log_cell}
use Rattle.sentry_records.specs.Metrics.{metric_cell}
use Rattle.sentry_items.specs.Attached.{attachment_header, short_header}
use Rattle.sentry_items.specs.Containers.{container_cell, container_kind, container_len, container_type, content_type, counted_header, counting_header}
use Rattle.sentry_items.specs.HeaderText.{header_text}
use Rattle.sentry_items.specs.Payload.{AppendsPayload}
use Rattle.sentry_items.specs.View.{ItemView, raw as raw_view, value as value_view, attachment_view, item_held, kind_held, payload_kind}
use Rattle.sentry_items.specs.declared.attachment.Attachment.{Attachment}
use Rattle.sentry_items.specs.declared.container.ItemContainer.{ItemContainer}
use Rattle.sentry_items.specs.declared.container.ItemContainer.TheVariants as containers
use Rattle.sentry_items.specs.declared.replay_recording.ReplayRecording.{ReplayRecording}
use Rattle.sentry_items.specs.declared.item.EnvelopeItem.{EnvelopeItem}
use Rattle.sentry_items.specs.declared.item.EnvelopeItem.TheVariants as variants
use Rattle.sentry_items.proofs.Containers.{container_lawful}
use Rattle.sentry_envelope.specs.EnvelopeView.{item_view, placed, AreStoredAndPlain}
use Rattle.sentry_envelope.specs.ItemText.{value_text, AppendsValue}
use Rattle.sentry_envelope.specs.HeaderFields.{header_kind, fill_id}
use Rattle.sentry_envelope.specs.Profile.{json_form, container_form, ItemType, Profile, TypesAreLawful}
use Rattle.sentry_envelope.specs.SentryProfile.{form_of, gives_of, item_types, profile}
use Rattle.sentry_envelope.specs.Envelope.{Item, item, raw, value, container_header, frame_text, frame_of_item, items_text, envelope_text, stored_content, plain_content, ContentDemand, ContentMeetsAt, ItemsMeet}
use Rattle.sentry_envelope.proofs.EnvelopeTypes.{IsAt, meets_at, frame_is, lawful_at}
use Rattle.sentry_envelope.proofs.SentryProfile.{profile_lawful, type_at}

-- a frame, and then what follows it
pub frame_then : (f : Option Frame) (next : List ℕ) → frame_text f [] ++ next ≡ frame_text f next
frame_then None next = refl
frame_then (Some f) next =
    append_assoc f.header (newline ∷ (f.payload ++ newline ∷ [])) next ∙ ap (λ s. f.header ++ newline ∷ s) (append_assoc f.payload (newline ∷ []) next)

-- what is written, one item more, and then the others
pub item_then : (P : Profile) (done : List ℕ) (i : Item) (is : List Item) → (done ++ frame_text (frame_of_item P i) []) ++ items_text P is ≡ done ++ items_text P (i ∷ is)
item_then P done i is = append_assoc done (frame_text (frame_of_item P i) []) (items_text P is) ∙ ap (λ s. done ++ s) (frame_then (frame_of_item P i) (items_text P is))

module _ (G : ContentDemand) (ts : List ItemType) where
  -- the first item, and then the others
  pub meet_first : (i : Item) (is : List Item) → ItemsMeet G ts (i ∷ is) → ItemsMeet G ts (i ∷ [])
  meet_first (item n c) is h = (h.0, tt)
  meet_first raw is h = tt

  pub meet_rest : (i : Item) (is : List Item) → ItemsMeet G ts (i ∷ is) → ItemsMeet G ts is
  meet_rest (item n c) is h = h.1
  meet_rest raw is h = h

  pub meet_both : (i : Item) (is : List Item) → ItemsMeet G ts (i ∷ []) → ItemsMeet G ts is → ItemsMeet G ts (i ∷ is)
  meet_both (item n c) is h k = (h.0, k)
  meet_both raw is h k = k

-- ---- one item

-- what follows from what holds where something was written, holds there
pub then_ok : {E : Type 0} (r : Result (Unit {0}) E) (P Q : Type 0) → (P → Q) → OnOk r P → OnOk r Q
then_ok (Ok u) P Q f h = f h
then_ok (Err e) P Q f h = tt

-- where items are stored and plain, the first and the others are
pub stored_and_plain_first : (i : Item) (is : List Item) → AreStoredAndPlain (i ∷ is) → AreStoredAndPlain (i ∷ [])
stored_and_plain_first i is both = (meet_first stored_content item_types i is both.0, meet_first plain_content item_types i is both.1)

pub stored_and_plain_rest : (i : Item) (is : List Item) → AreStoredAndPlain (i ∷ is) → AreStoredAndPlain is
stored_and_plain_rest i is both = (meet_rest stored_content item_types i is both.0, meet_rest plain_content item_types i is both.1)

-- no number in the tree of a value that is stored and plain is held as a float
value_whole : {ts : List ItemType} {n : ℕ} (word : List ℕ) (K : Kind) (gives : Cell → Cell) → IsAt ts n (record { word = word; form = json_form K; gives = gives }) → (H : Kind) (fill : Cell → Cell → Cell)
    → TypesAreLawful H fill ts → (c : Cell) → ContentMeetsAt stored_content ts n (value c) → ContentMeetsAt plain_content ts n (value c) → has_float (tree K c) ≡ false
value_whole word K gives at H fill laws c stored plain =
    let own = (lawful_at at H fill laws).form in
    sound_without_float (tree K c) ((has_laws K own).written c (subst (λ X. X) (meets_at at stored_content (value c)) stored) (subst (λ X. X) (meets_at at plain_content (value c)) plain))

-- the same of a container
listed_whole : {ts : List ItemType} {n : ℕ} (word content_type : List ℕ) (K : Kind) (gives : Cell → Cell) → IsAt ts n (record { word = word; form = container_form content_type K; gives = gives }) → (H : Kind) (fill : Cell → Cell → Cell)
    → TypesAreLawful H fill ts → (c : Cell) → ContentMeetsAt stored_content ts n (value c) → ContentMeetsAt plain_content ts n (value c) → has_float (tree (container_kind K) c) ≡ false
listed_whole word content_type K gives at H fill laws c stored plain =
    let own = (lawful_at at H fill laws).form in
    sound_without_float (tree (container_kind K) c) ((has_laws (container_kind K) (container_lawful K own.0)).written c (subst (λ X. X) (meets_at at stored_content (value c)) stored) (subst (λ X. X) (meets_at at plain_content (value c)) plain))

-- a container has as many items as values
pub count_listed : {A : Type 0} (f : A → Cell) (xs : List A) → count (cells f xs) ≡ length xs
count_listed f [] = refl
count_listed f (x ∷ xs) = ap suc (count_listed f xs)

-- the tree of a container's payload
abbrev container_tree : ItemContainer → Data
container_tree container = tree (payload_kind (container_type container)) (container_cell container)

-- the header of a container that counts so many
abbrev counted_by : ℕ → ItemContainer → Members
counted_by n container = counting_header (kind_word (container_type container)) (content_type container) n

-- an item of no type is `Raw`, for which nothing comes
pub nothing_comes : (v : ItemView) (text : List ℕ) → None ≡ kind_held v → AppendsValue v text text
nothing_comes raw_view text none = refl
nothing_comes (value_view k c) text none = cc
nothing_comes _ text none = tt

module _ {E : Type 0} (r : Result (Unit {0}) E) where
  abbrev Sends : List ℕ → List ℕ → EnvelopeItem → Type 0
  Sends old new i = OnOk r (AreStoredAndPlain (item_view i ∷ []) → new ≡ old ++ frame_text (frame_of_item profile (item_view i)) [])

  -- a frame with this header was sent
  abbrev IsSent : List ℕ → List ℕ → List ℕ → List ℕ → Type 0
  IsSent old new header payload = OnOk r (new ≡ old ++ with_line header (with_line payload []))

  -- behind a header, its line was ended and a payload sent
  abbrev IsEnded : List ℕ → List ℕ → List ℕ → Type 0
  IsEnded before new payload = OnOk r (new ≡ before ++ with_line [] (with_line payload []))

  pub ended : (old before new header payload : List ℕ) → before ≡ old ++ header → IsEnded before new payload → IsSent old new header payload
  ended old before new header payload headed sent =
      then_ok r _ _ (λ e. e ∙ ap (λ b. b ++ newline ∷ with_line payload []) headed ∙ append_assoc old header (newline ∷ with_line payload [])) sent

  pub attachment_sent : (i : EnvelopeItem) (old before new : List ℕ) (a : Attachment) → i ≡ variants.Attachment a → before ≡ old ++ header_text (attachment_header (codes "attachment") (attachment_view a))
      → IsEnded before new a.buffer.items → Sends old new i
  unfolding profile header_text
  attachment_sent i old before new a is headed sent =
      subst (Sends old new) (sym is) (then_ok r _ _ (λ e both. e) (ended old before new (header_text (attachment_header (codes "attachment") (attachment_view a))) a.buffer.items headed sent))

  pub recording_sent : (i : EnvelopeItem) (old before new : List ℕ) (x : ReplayRecording) → i ≡ variants.ReplayRecording x → before ≡ old ++ header_text (short_header (codes "replay_recording") x.buffer.items)
      → IsEnded before new x.buffer.items → Sends old new i
  unfolding profile header_text
  recording_sent i old before new x is headed sent =
      subst (Sends old new) (sym is) (then_ok r _ _ (λ e both. e) (ended old before new (header_text (short_header (codes "replay_recording") x.buffer.items)) x.buffer.items headed sent))

  -- a header that states the length of a JSON text, and the text
  pub value_framed : (v : ItemView) (k : ItemKind) (old before new text : List ℕ) → Some k ≡ kind_held v → AppendsPayload v [] text → before ≡ old ++ header_text (short_header (kind_word k) text)
      → IsEnded before new text → OnOk r (AppendsValue v old new)
  value_framed (value_view j c) k old before new text is texts headed sent =
      then_ok r _ _ (λ e whole.
      e ∙ ap (λ word. old ++ value_text word text) (ap kind_word (same_Some k j is)) ∙ ap (λ t. old ++ value_text (kind_word j) t) (texts whole))
      (ended old before new (header_text (short_header (kind_word k) text)) text headed sent)
  value_framed raw_view k old before new text is texts headed sent = cc
  value_framed _ k old before new text is texts headed sent = then_ok r _ _ (λ e. tt) sent

  -- of a type whose payload is one JSON text
  json_sent : (k : ItemKind) (c : Cell) (i : EnvelopeItem) (old new : List ℕ) → item_held i ≡ value_view k c → form_of k ≡ json_form (payload_kind k)
      → OnOk r (AppendsValue (item_held i) old new) → Sends old new i
  unfolding profile header_text
  json_sent k c i old new is form sent =
      let at = subst (λ f. IsAt item_types (kind_place k) (record { word = kind_word k; form = f; gives = gives_of k })) form (type_at k) in
      subst (λ v. OnOk r (AppendsValue v old new) → OnOk r (AreStoredAndPlain (placed v ∷ []) → new ≡ old ++ frame_text (frame_of_item profile (placed v)) [])) (sym is)
      (λ appends. then_ok r _ _ (λ e both.
      e (value_whole (kind_word k) (payload_kind k) (gives_of k) at header_kind fill_id profile_lawful.types c both.0.0 both.1.0) ∙ ap (λ f. old ++ frame_text f []) (sym (frame_is at (value c)))) appends) sent

  -- an item that holds a value, and is no container; or `Raw`
  pub value_sent : (i : EnvelopeItem) (old new : List ℕ) → ((a : Attachment) → i ≡ variants.Attachment a → ⊥) → ((x : ReplayRecording) → i ≡ variants.ReplayRecording x → ⊥)
      → ((k : ItemContainer) → i ≡ variants.ItemContainer k → ⊥) → OnOk r (AppendsValue (item_held i) old new) → Sends old new i
  value_sent (variants.Attachment a) old new no_attachment no_recording no_container sent = absurd (no_attachment a refl)
  value_sent (variants.ReplayRecording x) old new no_attachment no_recording no_container sent = absurd (no_recording x refl)
  value_sent (variants.ItemContainer k) old new no_attachment no_recording no_container sent = absurd (no_container k refl)
  value_sent variants.Raw old new no_attachment no_recording no_container sent = then_ok r _ _ (λ e both. e ∙ sym (append-nil old)) sent
  value_sent i old new no_attachment no_recording no_container sent = json_sent _ _ i old new refl refl sent

  -- of a container
  module _ (n : ℕ) (word content_type : List ℕ) (K : Kind) (gives : Cell → Cell) (at : IsAt item_types n (record { word = word; form = container_form content_type K; gives = gives })) where
    listed_sent : (i : EnvelopeItem) (old new : List ℕ) (c : Cell) → item_view i ≡ item n (value c)
        → OnOk r (has_float (tree (container_kind K) c) ≡ false → new ≡ old ++ with_line (header_text (container_header word content_type c)) (with_line (compact_text (tree (container_kind K) c)) [])) → Sends old new i
    unfolding profile header_text
    listed_sent i old new c is sent =
        subst (λ v. OnOk r (AreStoredAndPlain (v ∷ []) → new ≡ old ++ frame_text (frame_of_item profile v) [])) (sym is)
        (then_ok r _ _ (λ e both. e (listed_whole word content_type K gives at header_kind fill_id profile_lawful.types c both.0.0 both.1.0) ∙ ap (λ f. old ++ frame_text f []) (sym (frame_is at (value c)))) sent)

  abbrev SendsContainer : ItemContainer → List ℕ → List ℕ → ℕ → Type 0
  SendsContainer k old new n = OnOk r (has_float (container_tree k) ≡ false → new ≡ old ++ with_line (header_text (counted_by n k)) (with_line (compact_text (container_tree k)) []))

  counted_sent : (k : ItemContainer) (i : EnvelopeItem) (old new : List ℕ) → i ≡ variants.ItemContainer k → SendsContainer k old new (container_len k) → Sends old new i
  counted_sent (containers.Logs logs) i old new is sent =
      listed_sent _ _ _ _ _ (type_at kinds.Logs) i old new _ (ap item_view is) (subst (SendsContainer (containers.Logs logs) old new) (sym (count_listed log_cell logs.items)) sent)
  counted_sent (containers.Metrics metrics) i old new is sent =
      listed_sent _ _ _ _ _ (type_at kinds.Metrics) i old new _ (ap item_view is) (subst (SendsContainer (containers.Metrics metrics) old new) (sym (count_listed metric_cell metrics.items)) sent)

  pub container_sent : (k : ItemContainer) (i : EnvelopeItem) (old before new text : List ℕ) → i ≡ variants.ItemContainer k → AppendsPayload (item_held i) [] text → before ≡ old ++ header_text (counted_header k)
      → IsEnded before new text → Sends old new i
  container_sent k i old before new text is texts headed sent =
      let own : has_float (container_tree k) ≡ false → text ≡ compact_text (container_tree k) = subst (λ x. AppendsPayload (item_held x) [] text) is texts in
      counted_sent k i old new is
      (then_ok r _ _ (λ e whole. e ∙ ap (λ t. old ++ with_line (header_text (counted_header k)) (with_line t [])) (own whole)) (ended old before new (header_text (counted_header k)) text headed sent))

-- ---- an envelope

-- the header line, and then the items
pub envelope_begun : (h : Cell) (is : List Item) (line out : List ℕ) → line ≡ [] ++ compact_text (tree header_kind h) → out ≡ line ++ newline ∷ [] → out ++ items_text profile is ≡ envelope_text profile (record { header = h; items = is })
unfolding profile envelope_text
envelope_begun h is line out e f = ap (λ s. s ++ items_text profile is) (f ∙ ap (λ s. s ++ newline ∷ []) e) ∙ append_assoc (compact_text (tree header_kind h)) (newline ∷ []) (items_text profile is)

-- one item more is written
pub item_written : (items : List EnvelopeItem) (i : ℕ) (x : EnvelopeItem) (done new all : List ℕ) → i < length items → x ≡ get_or items i x
    → (AreStoredAndPlain (item_view x ∷ []) → new ≡ done ++ frame_text (frame_of_item profile (item_view x)) [])
    → AreStoredAndPlain (map item_view (drop i items)) × (done ++ items_text profile (map item_view (drop i items)) ≡ all)
    → AreStoredAndPlain (map item_view (drop (i + 1) items)) × (new ++ items_text profile (map item_view (drop (i + 1) items)) ≡ all)
item_written items i x done new all within is sent (both, so_far) =
    let others = drop (i + 1) items in
    let first : drop i items ≡ x ∷ others = rw add-one (drop-cons items i x within ∙ ap (λ y. y ∷ drop (suc i) items) (sym is)) in
    let now_both : AreStoredAndPlain (item_view x ∷ map item_view others) = subst (λ xs. AreStoredAndPlain (map item_view xs)) first both in (
      stored_and_plain_rest (item_view x) (map item_view others) now_both,
      ap (λ s. s ++ items_text profile (map item_view others)) (sent (stored_and_plain_first (item_view x) (map item_view others) now_both)) ∙ item_then profile done (item_view x) (map item_view others)
          ∙ ap (λ xs. done ++ items_text profile (map item_view xs)) (sym first) ∙ so_far,
    )
