-- What is lost with frames: of an item that one shows, and by the word of its type.
use Rattle.std.proofs.Common.{◌≡◌, ℕ, ◌+◌, ◌<◌, true, false, List, [], ◌∷◌, ◌++◌, length, get_or, take, Option, Some, true≢false, refl, sym, ap, ◌∙◌, subst, append_assoc, append-nil}
use Rattle.std.proofs.lemmas.List.{take_more}
use Rattle.std.proofs.lemmas.Option.{same_Some}
use Rattle.sentry_tables.specs.Cell.{Cell}
use Rattle.sentry_framing.specs.Framing.{Frame}
use Rattle.sentry_framing.specs.ItemWords.{kind_of_word, kind_place, kind_word}
use Rattle.sentry_framing.specs.declared.kind.ItemKind.{ItemKind}
use Rattle.sentry_framing.specs.declared.kind.ItemKind.TheVariants as kinds
use Rattle.sentry_forward.specs.AnyHeader.{Typed}
use Rattle.sentry_forward.specs.View.{any_frame, says, word_of}
use Rattle.sentry_forward.specs.declared.frames.AnyFrame.{AnyFrame}
use Rattle.sentry_forward.proofs.Readings.{known_typed}
use Rattle.sentry_items.specs.Losses.{loss, losses_of_item, one_or_none}
use Rattle.sentry_items.specs.declared.container.ItemContainer.TheVariants as containers
use Rattle.sentry_items.specs.declared.item.EnvelopeItem.{EnvelopeItem}
use Rattle.sentry_items.specs.declared.item.EnvelopeItem.TheVariants as variants
use Rattle.sentry_reports.specs.declared.category.Category.TheVariants as category
use Rattle.sentry_reports.specs.declared.item_loss.ItemLoss.{ItemLoss}
use Rattle.sentry_envelope.specs.Envelope.{Content, attached, Item, item, ItemShows}
use Rattle.sentry_envelope.specs.EnvelopeFault.{FrameIsRefused}
use Rattle.sentry_envelope.specs.EnvelopeView.{item_view}
use Rattle.sentry_envelope.specs.SentryProfile.{profile}
use Rattle.sentry_ledger.proofs.TypeWords.{word_of_type}
use Rattle.sentry_ledger.specs.FrameLosses.{AreLosses, AreLossesOf, AreLossesOfAll, AreLossesOfItem, IsNamed, depends_on_payload, loss_by_type}

-- ---- items that are told by their type

abbrev buffer_of : Content → List ℕ
buffer_of (attached a) = a.buffer
buffer_of _ = []

module _ (frame : AnyFrame) (named : IsNamed frame) where
  -- an item that the frame shows is of the type with its word
  word_shown : (now : Cell) (k : ItemKind) (c : Content) → ItemShows profile now (any_frame frame) (item (kind_place k) c) → word_of frame ≡ kind_word k
  unfolding profile
  word_shown now k c (h, read, kind, shown) =
      let (t, is, size, place) = known_typed frame.header.now h read in
      let same : t ≡ says frame = same_Some t (says frame) (sym is ∙ named) in
      ap (λ (x : Typed). x.word) (sym same) ∙ word_of_type t.word k (place ∙ ap (λ (n : ℕ). Some n) kind)

  -- an attachment that the frame shows has its payload
  bytes_shown : (now : Cell) (c : Content) → ItemShows profile now (any_frame frame) (item (kind_place kinds.Attachment) c) → buffer_of c ≡ frame.payload.now
  unfolding profile
  bytes_shown now c (h, read, kind, shown) = ap buffer_of shown

  -- where the type tells the losses of an item, they are the one that it has
  pub told_by_type : depends_on_payload (kind_of_word (word_of frame)) ≡ false → (now : Cell) (i : EnvelopeItem) → ItemShows profile now (any_frame frame) (item_view i)
      → losses_of_item i ≡ one_or_none (loss_by_type (word_of frame) (length frame.payload.now))
  told_by_type told now (variants.Event event) shows = rw (word_shown now kinds.Event _ shows) refl
  told_by_type told now (variants.SessionUpdate session) shows = rw (word_shown now kinds.SessionUpdate _ shows) refl
  told_by_type told now (variants.SessionAggregates groups) shows = let no = rw (word_shown now kinds.SessionAggregates _ shows) at told in absurd (true≢false no)
  told_by_type told now (variants.Transaction transaction) shows = let no = rw (word_shown now kinds.Transaction _ shows) at told in absurd (true≢false no)
  told_by_type told now (variants.Attachment attachment) shows =
      rw (word_shown now kinds.Attachment _ shows) (ap (λ (bytes : List ℕ). loss category.Attachment (length bytes) ∷ []) (bytes_shown now _ shows))
  told_by_type told now (variants.MonitorCheckIn check_in) shows = rw (word_shown now kinds.MonitorCheckIn _ shows) refl
  told_by_type told now (variants.UserReport report) shows = rw (word_shown now kinds.UserReport _ shows) refl
  told_by_type told now (variants.ReplayRecording recording) shows = rw (word_shown now kinds.ReplayRecording _ shows) refl
  told_by_type told now (variants.ItemContainer (containers.Logs logs)) shows = let no = rw (word_shown now kinds.Logs _ shows) at told in absurd (true≢false no)
  told_by_type told now (variants.ItemContainer (containers.Metrics metrics)) shows = let no = rw (word_shown now kinds.Metrics _ shows) at told in absurd (true≢false no)
  told_by_type told now (variants.ClientReport report) shows = let no = rw (word_shown now kinds.ClientReport _ shows) at told in absurd (true≢false no)
  told_by_type told now variants.Raw shows = absurd shows

  pub losses_by_type : depends_on_payload (kind_of_word (word_of frame)) ≡ false → AreLosses (any_frame frame) (word_of frame) (one_or_none (loss_by_type (word_of frame) (length frame.payload.now)))
  unfolding AreLossesOfItem
  losses_by_type told = record { shown = λ now i shows. (now, i, shows, sym (told_by_type told now i shows)); refused = λ none. refl }

-- ---- frames that are read

module _ (frame : Frame) (word : List ℕ) where
  -- an item that a frame shows has its losses
  pub losses_of_shown : (now : Cell) (i : EnvelopeItem) → ItemShows profile now frame (item_view i) → AreLosses frame word (losses_of_item i)
  unfolding AreLossesOfItem
  losses_of_shown now i shows = record { shown = λ n j s. (now, i, shows, refl); refused = λ none. absurd (none now (item_view i) shows) }

  -- a frame that shows no item has that of its type
  pub losses_of_refused : FrameIsRefused profile frame → AreLosses frame word (one_or_none (loss_by_type word (length frame.payload)))
  losses_of_refused none = record { shown = λ now i shows. absurd (none now (item_view i) shows); refused = λ again. refl }

-- ---- all frames

all_snoc : (frames : List AnyFrame) (losses more : List ItemLoss) (frame : AnyFrame) → AreLossesOfAll frames losses → AreLossesOf frame more → AreLossesOfAll (frames ++ frame ∷ []) (losses ++ more)
all_snoc [] losses more frame none here = (more, [], rw none (sym (append-nil more)), here, refl)
all_snoc (first ∷ frames) losses more frame (own, rest, parts, one, others) here =
    (own, rest ++ more, ap (λ (all : List ItemLoss). all ++ more) parts ∙ append_assoc own rest more, one, all_snoc frames rest more frame others here)

-- those of the next frame of a list come behind those of the frames before it
pub all_next : (frames : List AnyFrame) (i : ℕ) (frame : AnyFrame) (losses more new : List ItemLoss) → i < length frames → frame ≡ get_or frames i frame → AreLossesOfAll (take i frames) losses
    → AreLossesOf frame more → new ≡ losses ++ more → AreLossesOfAll (take (i + 1) frames) new
all_next frames i frame losses more new within is before here parts =
    let taken : take (i + 1) frames ≡ take i frames ++ frame ∷ [] = take_more frames i frame within ∙ ap (λ (x : AnyFrame). take i frames ++ x ∷ []) (sym is) in
    rw (taken, parts) (all_snoc (take i frames) losses more frame before here)
