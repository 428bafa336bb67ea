-- One item more.
use Rattle.std.specs.Prelude.{◌≡◌, ◌⊎◌, ◌↔◌, ℕ, List, [], ◌∷◌, ◌++◌, Some}
use Rattle.sentry_tables.specs.Cell.{Cell}
use Rattle.sentry_tables.specs.Kind.{Kind}
use Rattle.sentry_tables.specs.Laws.{TextShows}
use Rattle.sentry_framing.specs.Framing.{Frame}
use Rattle.sentry_framing.specs.ItemHeader.{Header, read_header}
use Rattle.sentry_framing.specs.ItemWords.{item_words, kind_place}
use Rattle.sentry_framing.specs.declared.error.EnvelopeError.{EnvelopeError}
use Rattle.sentry_framing.specs.declared.error.EnvelopeError.TheVariants.{InvalidItemPayload, OutOfMemory}
use Rattle.sentry_framing.specs.declared.kind.ItemKind.{ItemKind}
use Rattle.sentry_items.specs.Containers.{container_kind}
use Rattle.sentry_items.specs.View.{item_held, value}
use Rattle.sentry_items.specs.declared.item.EnvelopeItem.{EnvelopeItem}
use Rattle.sentry_envelope.specs.Envelope.{Content, ContentShows, IsValue, ItemShows}
use Rattle.sentry_envelope.specs.EnvelopeFault.{FrameIsRefused}
use Rattle.sentry_envelope.specs.EnvelopeView.{item_view}
use Rattle.sentry_envelope.specs.Profile.{Form, json_form, container_form}
use Rattle.sentry_envelope.specs.SentryProfile.{profile}

-- the frame's header is one of this item type
unfoldable pub IsOfKind : Frame → ItemKind → Type 0
IsOfKind frame k = (h : Header) × (read_header item_words frame.header ≡ Some h) × (h.kind ≡ kind_place k)

-- payloads of this form are JSON of this kind
pub record IsJson (f : Form) (K : Kind) : Type 0 where
  pub same : (now : Cell) (h : Header) (payload : List ℕ) (c : Content) → ContentShows f now h payload c ↔ IsValue (TextShows K now payload) c

pub alone : {K : Kind} → IsJson (json_form K) K
alone = record { same = λ now h payload c. (λ shows. shows, λ shows. shows) }

pub listed : {content_type : List ℕ} {K : Kind} → IsJson (container_form content_type K) (container_kind K)
listed = record { same = λ now h payload c. (λ shows. shows, λ shows. shows) }

-- an item that the frame shows has come behind the others
unfoldable pub IsAdded : Cell → Frame → List EnvelopeItem → List EnvelopeItem → Type 0
IsAdded now frame old new = (i : EnvelopeItem) × (new ≡ old ++ i ∷ []) × ItemShows profile now frame (item_view i)

-- an item of this type, which holds this value, has come behind the others
abbrev pub IsValueAdded : ItemKind → Cell → List EnvelopeItem → List EnvelopeItem → Type 0
IsValueAdded k c old new = (i : EnvelopeItem) × (item_held i ≡ value k c) × (new ≡ old ++ i ∷ [])

-- why no item has come: memory is short, or the frame shows none
abbrev pub IsNotAdded : Frame → EnvelopeError → Type 0
IsNotAdded frame e = (e ≡ OutOfMemory) ⊎ ((e ≡ InvalidItemPayload) × FrameIsRefused profile frame)
