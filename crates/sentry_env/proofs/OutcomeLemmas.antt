-- What is due of a run is settled by what the items show.
use Rattle.std.proofs.Common.{◌≡◌, ℕ, Bool, List, [], ◌∷◌, map, slice_get, Option, Some, None, option_map, refl, ap, ap₂, sym, ◌∙◌}
use Rattle.std.proofs.lemmas.Option.{same_Some}
use Rattle.sentry_tables.specs.Cell.{Cell}
use Rattle.sentry_framing.specs.ItemWords.{item_kinds, kind_place}
use Rattle.sentry_framing.specs.declared.kind.ItemKind.{ItemKind}
use Rattle.sentry_framing.specs.declared.kind.ItemKind.TheVariants as types
use Rattle.sentry_items.specs.Losses.{losses_of_items}
use Rattle.sentry_items.specs.View.{ItemView, attachment, replay_recording, value as value_view, raw as raw_view, item_held}
use Rattle.sentry_items.specs.declared.item.EnvelopeItem.{EnvelopeItem}
use Rattle.sentry_items.proofs.SameLosses.{same_losses}
use Rattle.sentry_reports.specs.declared.item_loss.ItemLoss.{ItemLoss}
use Rattle.sentry_envelope.specs.Envelope.{Envelope as Model, Item, item, raw, attached, opaque, value, Spells, envelope_text, first_id}
use Rattle.sentry_envelope.specs.EnvelopeView.{item_view, placed}
use Rattle.sentry_envelope.specs.Filter.{header_left, id_in}
use Rattle.sentry_envelope.specs.FilteredText.{IsFiltered, IsTextOfLeft, items_left, items_taken}
use Rattle.sentry_envelope.specs.HeaderFields.{put_id}
use Rattle.sentry_envelope.specs.OneEnvelope.{NothingDrawnIn}
use Rattle.sentry_envelope.specs.SentryProfile.{item_types, profile}
use Rattle.sentry_envelope.proofs.OneEnvelope.{one_envelope}
use Rattle.sentry_envelope.proofs.SentryProfile.{profile_lawful}
use Rattle.sentry_program.specs.Table.{table_of}
use Rattle.sentry_envelope.specs.FilteredText.{is_none_of}
use Rattle.sentry_env.specs.Run.{Due, DueIsSettled, IsDueBy, Settings, dues, left_due}
use Rattle.sentry_env.specs.declared.ending.Outcome.TheVariants.{Written}

-- ---- items that show the same hold the same

-- the types, in the order of their places
abbrev type_at : ℕ → Option ItemKind
type_at n = slice_get item_kinds n

type_in_place : (k : ItemKind) → type_at (kind_place k) ≡ Some k
type_in_place types.Event = refl
type_in_place _ = refl

abbrev held_at : Item → Option ItemView
held_at (item n (attached a)) = Some (attachment a)
held_at (item n (opaque b)) = Some (replay_recording b)
held_at (item n (value c)) = option_map (λ k. value_view k c) (type_at n)
held_at raw = Some raw_view

held_back : (v : ItemView) → held_at (placed v) ≡ Some v
held_back (attachment a) = refl
held_back (replay_recording b) = refl
held_back (value_view k c) = ap (option_map (λ t. value_view t c)) (type_in_place k)
held_back raw_view = refl

same_held : (i j : EnvelopeItem) → item_view i ≡ item_view j → item_held i ≡ item_held j
same_held i j same = same_Some (item_held i) (item_held j) (sym (held_back (item_held i)) ∙ (ap held_at same ∙ held_back (item_held j)))

-- items that show the same, one by one, lose the same
losses_alike : (items others : List EnvelopeItem) → map item_view items ≡ map item_view others → losses_of_items items ≡ losses_of_items others
losses_alike [] [] same = refl
losses_alike [] (j ∷ others) same = cc
losses_alike (i ∷ items) [] same = cc
losses_alike (i ∷ items) (j ∷ others) same = rw (same_losses i j (same_held i j (cc)), losses_alike items others (cc)) refl

-- ---- what is left

module _ (bytes : List ℕ) (now : Cell) (drawn : NothingDrawnIn profile bytes) where
  one_model : (e f : Model) → Spells profile bytes now e → Spells profile bytes now f → e ≡ f
  one_model e f spells spells' = one_envelope profile profile_lawful bytes now e f drawn spells spells'

  module _ (stays : ItemKind → Bool) (keep_headers : Bool) where
    abbrev Filtered : Cell → List Item → List ItemLoss → Type 0
    Filtered header left losses = IsFiltered stays keep_headers bytes now header left losses

    one_whole : (header header' : Cell) (left left' : List Item) (losses losses' : List ItemLoss) (f : Filtered header left losses) (g : Filtered header' left' losses') → f.whole ≡ g.whole
    one_whole header header' left left' losses losses' f g = one_model f.whole g.whole f.spells g.spells

    one_left : (header header' : Cell) (left left' : List Item) (losses losses' : List ItemLoss) → Filtered header left losses → Filtered header' left' losses' → left ≡ left'
    one_left header header' left left' losses losses' f g =
        f.left_is ∙ ap (λ (m : Model). items_left stays m.items) (one_whole header header' left left' losses losses' f g) ∙ sym g.left_is

    one_header : (header header' : Cell) (left left' : List Item) (losses losses' : List ItemLoss) → Filtered header left losses → Filtered header' left' losses' → header ≡ header'
    one_header header header' left left' losses losses' f g =
        f.header_is
        ∙ ap₂ (λ (is : List Item) (h : Cell). put_id (id_in (first_id item_types is)) (header_left keep_headers h)) (one_left header header' left left' losses losses' f g) (ap (λ (m : Model). m.header) (one_whole header header' left left' losses losses' f g))
        ∙ sym g.header_is

    one_loss : (header header' : Cell) (left left' : List Item) (losses losses' : List ItemLoss) → Filtered header left losses → Filtered header' left' losses' → losses ≡ losses'
    one_loss header header' left left' losses losses' f g =
        let shown : map item_view f.taken ≡ map item_view g.taken =
        f.taken_are ∙ ap (λ (m : Model). items_taken stays m.items) (one_whole header header' left left' losses losses' f g) ∙ sym g.taken_are in
        f.losses_are ∙ losses_alike f.taken g.taken shown ∙ sym g.losses_are

    abbrev Left : Option (List ℕ) → List ItemLoss → Type 0
    Left text losses = IsTextOfLeft stays keep_headers bytes now text losses

    one_text : (text text' : Option (List ℕ)) (losses losses' : List ItemLoss) → Left text losses → Left text' losses' → (text ≡ text') × (losses ≡ losses')
    one_text None None losses losses' (header, f) (header', g) = (refl, one_loss header header' [] [] losses losses' f g)
    one_text None (Some text') losses losses' (header, f) q =
        let same = one_left header q.header [] (q.first ∷ q.rest) losses losses' f q.filtered in cc
    one_text (Some text) None losses losses' p (header', g) =
        let same = one_left p.header header' (p.first ∷ p.rest) [] losses losses' p.filtered g in cc
    one_text (Some text) (Some text') losses losses' p q =
        let lefts = one_left p.header q.header (p.first ∷ p.rest) (q.first ∷ q.rest) losses losses' p.filtered q.filtered in
        let headers = one_header p.header q.header (p.first ∷ p.rest) (q.first ∷ q.rest) losses losses' p.filtered q.filtered in
        let texts : text ≡ text' = p.text_is ∙ ap₂ (λ (h : Cell) (is : List Item). envelope_text profile (record { header = h; items = is })) headers lefts ∙ sym q.text_is in
        (ap Some texts, one_loss p.header q.header (p.first ∷ p.rest) (q.first ∷ q.rest) losses losses' p.filtered q.filtered)

-- ---- what is due

module _ (set : Settings) (bytes : List ℕ) (due due' : Due) (drawn : NothingDrawnIn profile bytes) where
  settled : (kinds : List ItemKind) → IsDueBy kinds set due bytes → IsDueBy kinds set due' bytes → due ≡ due'
  settled [] is is' =
      is.due_is ∙ ap (λ (m : Model). dues (envelope_text profile m) [] Written) (one_model bytes set.now drawn is.envelope is'.envelope is.spells is'.spells) ∙ sym is'.due_is
  settled (kind ∷ kinds) is is' =
      let same = one_text bytes set.now drawn (is_none_of set.kinds) set.keep_headers is.text is'.text is.losses is'.losses is.left is'.left in
      is.due_is ∙ ap₂ (λ (text : Option (List ℕ)) (losses : List ItemLoss). left_due text (table_of losses)) same.0 same.1 ∙ sym is'.due_is

pub due_is_settled : DueIsSettled
due_is_settled set bytes due due' drawn is is' = settled set bytes due due' drawn set.kinds is is'
