-- What is lost with a frame of any item type.
use Rattle.std.specs.Prelude.{◌≡◌, ℕ, Bool, true, false, List, [], ◌∷◌, ◌++◌, length, Option, Some, option_map, codes}
use Rattle.sentry_tables.specs.Cell.{Cell}
use Rattle.sentry_words.specs.Lookup.{lookup}
use Rattle.sentry_framing.specs.Framing.{Frame}
use Rattle.sentry_framing.specs.declared.kind.ItemKind.{ItemKind}
use Rattle.sentry_framing.specs.declared.kind.ItemKind.TheVariants as kind
use Rattle.sentry_forward.specs.AnyHeader.{any_header}
use Rattle.sentry_forward.specs.View.{any_frame, says, word_of}
use Rattle.sentry_forward.specs.declared.frames.AnyFrame.{AnyFrame}
use Rattle.sentry_reports.specs.declared.category.Category.{Category}
use Rattle.sentry_reports.specs.declared.category.Category.TheVariants as category
use Rattle.sentry_reports.specs.declared.item_loss.ItemLoss.{ItemLoss}
use Rattle.sentry_items.specs.Losses.{loss, losses_of_item, one_or_none}
use Rattle.sentry_items.specs.declared.item.EnvelopeItem.{EnvelopeItem}
use Rattle.sentry_envelope.specs.Envelope.{ItemShows}
use Rattle.sentry_envelope.specs.EnvelopeFault.{FrameIsRefused}
use Rattle.sentry_envelope.specs.EnvelopeView.{item_view}
use Rattle.sentry_envelope.specs.SentryProfile.{profile}

-- ---- by the word of an item type

-- The category in which items of a type count.
abbrev pub item_categories : List (List ℕ × Category)
item_categories =
    (codes "event", category.Error) ∷
    (codes "unreal_report", category.Error) ∷
    (codes "session", category.Session) ∷
    (codes "sessions", category.Session) ∷
    (codes "transaction", category.Transaction) ∷
    (codes "span", category.Span) ∷
    (codes "attachment", category.Attachment) ∷
    (codes "check_in", category.Monitor) ∷
    (codes "log", category.LogItem) ∷
    (codes "trace_metric", category.TraceMetric) ∷
    (codes "user_report", category.Feedback) ∷
    (codes "feedback", category.Feedback) ∷
    (codes "replay_event", category.Replay) ∷
    (codes "replay_recording", category.Replay) ∷
    (codes "replay_video", category.Replay) ∷ []

-- the category of an item type's word; no other type has one
abbrev pub category_of_type : List ℕ → Option Category
category_of_type = lookup item_categories

-- attachments count in bytes, and all else by the item
abbrev pub quantity_in : Category → ℕ → ℕ
quantity_in category.Attachment size = size
quantity_in _ size = 1

-- what is lost with an item of this type whose payload has so many bytes, without a reason
abbrev pub loss_by_type : List ℕ → ℕ → Option ItemLoss
loss_by_type word size = option_map (λ c. loss c (quantity_in c size)) (category_of_type word)

-- the losses of an item of this type depend on what its payload holds
abbrev pub depends_on_payload : Option ItemKind → Bool
depends_on_payload (Some kind.SessionAggregates) = true
depends_on_payload (Some kind.Transaction) = true
depends_on_payload (Some kind.Logs) = true
depends_on_payload (Some kind.Metrics) = true
depends_on_payload (Some kind.ClientReport) = true
depends_on_payload _ = false

-- ---- of a frame

-- these are the losses of an item that the frame shows, at some moment
unfoldable pub AreLossesOfItem : Frame → List ItemLoss → Type 0
AreLossesOfItem frame losses = (now : Cell) × (item : EnvelopeItem) × ItemShows profile now frame (item_view item) × (losses ≡ losses_of_item item)

-- The losses of a frame of the item type with this word: where it shows an item, those of an item
-- that it shows; where it shows none, the one that its type has.
pub record AreLosses (frame : Frame) (word : List ℕ) (losses : List ItemLoss) : Type 0 where
  pub shown : (now : Cell) (item : EnvelopeItem) → ItemShows profile now frame (item_view item) → AreLossesOfItem frame losses
  pub refused : FrameIsRefused profile frame → losses ≡ one_or_none (loss_by_type word (length frame.payload))

-- the frame tells what its header says
abbrev pub IsNamed : AnyFrame → Type 0
IsNamed item = any_header item.header.now ≡ Some (says item)

-- these are the losses of a frame, if that tells what its header says
abbrev pub AreLossesOf : AnyFrame → List ItemLoss → Type 0
AreLossesOf item losses = IsNamed item → AreLosses (any_frame item) (word_of item) losses

-- the losses of frames are those of each, in order
abbrev pub AreLossesOfAll : List AnyFrame → List ItemLoss → Type 0
AreLossesOfAll [] losses = losses ≡ []
AreLossesOfAll (item ∷ items) losses = (first rest : List ItemLoss) × (losses ≡ first ++ rest) × AreLossesOf item first × AreLossesOfAll items rest
