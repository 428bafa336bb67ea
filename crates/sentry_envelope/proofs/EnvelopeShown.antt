-- A line and a frame stand at every moment, or are refused at each.
use Rattle.std.proofs.Common.{◌≡◌, ◌⊎◌, inl, inr, ℕ, zero, suc, List, [], ◌∷◌, Option, Some, None, refl, sym, ◌∙◌, subst}
use Rattle.std.proofs.lemmas.Option.{same_Some}
use Rattle.sentry_tables.specs.Cell.{Cell, absent}
use Rattle.sentry_tables.specs.Kind.{Kind}
use Rattle.sentry_tables.specs.Lawful.{IsLawful}
use Rattle.sentry_tables.specs.Laws.{TextShows}
use Rattle.sentry_tables.proofs.Laws.{has_laws}
use Rattle.sentry_framing.specs.Framing.{Frame}
use Rattle.sentry_framing.specs.ItemHeader.{Header, read_header}
use Rattle.sentry_envelope.specs.Profile.{Form, attachment_form, opaque_form, json_form, container_form, ItemType, words, Profile, FormIsLawful, TypesAreLawful, ProfileLaws}
use Rattle.sentry_items.specs.Containers.{container_kind}
use Rattle.sentry_items.proofs.Containers.{container_lawful}
use Rattle.sentry_envelope.specs.Envelope.{Content, attached, opaque, value, Item, item, raw, IsValue, attached_by, ContentShows, ContentShowsAt, ItemShows}
use Rattle.sentry_envelope.specs.EnvelopeFault.{LineStands, LineIsRefused, FrameStands, FrameIsRefused}

-- ---- contents, of a form and at a place

abbrev pub ContentStands : Form → Header → List ℕ → Type 0
ContentStands f h payload = (now : Cell) → (c : Content) × ContentShows f now h payload c

abbrev pub ContentIsRefused : Form → Header → List ℕ → Type 0
ContentIsRefused f h payload = (now : Cell) (c : Content) → ContentShows f now h payload c → ⊥

abbrev pub ContentStandsAt : List ItemType → ℕ → Header → List ℕ → Type 0
ContentStandsAt ts n h payload = (now : Cell) → (c : Content) × ContentShowsAt ts n now h payload c

abbrev pub ContentIsRefusedAt : List ItemType → ℕ → Header → List ℕ → Type 0
ContentIsRefusedAt ts n h payload = (now : Cell) (c : Content) → ContentShowsAt ts n now h payload c → ⊥

-- no content is a value of none
pub no_value : (Q : Cell → Type 0) → ((c : Cell) → Q c → ⊥) → (c : Content) → IsValue Q c → ⊥
no_value Q none (attached a) h = h
no_value Q none (opaque b) h = h
no_value Q none (value c) h = none c h

no_header : (h : Header) → None ≡ Some h → ⊥
no_header h e = cc

-- what an item header shows, the header that is read shows
pub header_shows : (P : Profile) (now : Cell) (frame : Frame) (h : Header) (i : Item) → read_header (words P.types) frame.header ≡ Some h → ItemShows P now frame i
    → (c : Content) × ContentShowsAt P.types h.kind now h frame.payload c
header_shows P now frame h raw r s = absurd s
header_shows P now frame h (item n c) r (g, reads, place, shows) =
    let same : g ≡ h = same_Some g h (sym reads ∙ r) in
    let there : ContentShowsAt P.types g.kind now g frame.payload c = subst (λ m. ContentShowsAt P.types m now g frame.payload c) (sym place) shows in
    (c, subst (λ (x : Header). ContentShowsAt P.types x.kind now x frame.payload c) same there)

-- ---- lines

pub line_sorted : (K : Kind) → IsLawful K → (line : List ℕ) → LineStands K line ⊎ LineIsRefused K line
line_sorted K lawful line = elim ((has_laws K lawful).text_decided line absent) [
  | inl p ↦ inl (λ now. (has_laws K lawful).text_timeless line absent now p.0 p.1)
  | inr none ↦ inr (λ now c shows. let (x, shown) = (has_laws K lawful).text_timeless line now absent c shows in none x shown)
]

-- ---- contents

value_sorted : (K : Kind) → IsLawful K → (payload : List ℕ)
    → ((now : Cell) → (c : Content) × IsValue (TextShows K now payload) c) ⊎ ((now : Cell) (c : Content) → IsValue (TextShows K now payload) c → ⊥)
value_sorted K lawful payload = elim (line_sorted K lawful payload) [
  | inl stands ↦ inl (λ now. let (c, shows) = stands now in (value c, shows))
  | inr refused ↦ inr (λ now. no_value (TextShows K now payload) (refused now))
]

content_sorted : (f : Form) → FormIsLawful f → (h : Header) (payload : List ℕ) → ContentStands f h payload ⊎ ContentIsRefused f h payload
content_sorted attachment_form lawful h payload = inl (λ now. (attached (attached_by h payload), refl))
content_sorted opaque_form lawful h payload = inl (λ now. (opaque payload, refl))
content_sorted (json_form K) lawful h payload = value_sorted K lawful payload
content_sorted (container_form content_type K) lawful h payload = value_sorted (container_kind K) (container_lawful K lawful.0) payload

pub content_sorted_at : (H : Kind) (fill : Cell → Cell → Cell) (ts : List ItemType) → TypesAreLawful H fill ts → (n : ℕ) (h : Header) (payload : List ℕ)
    → ContentStandsAt ts n h payload ⊎ ContentIsRefusedAt ts n h payload
content_sorted_at H fill [] lawful n h payload = inr (λ now c shows. shows)
content_sorted_at H fill (t ∷ ts) lawful zero h payload = content_sorted t.form lawful.2 h payload
content_sorted_at H fill (t ∷ ts) lawful (suc n) h payload = content_sorted_at H fill ts lawful.4 n h payload

-- ---- frames

module _ (P : Profile) (owed : ProfileLaws P) (frame : Frame) where
  sorted_by : (r : Option Header) → read_header (words P.types) frame.header ≡ r → FrameStands P frame ⊎ FrameIsRefused P frame
  sorted_by None r = inr none
    where
      none : FrameIsRefused P frame
      none now raw shows = shows
      none now (item n c) (h, reads, place, shows) = no_header h (sym r ∙ reads)
  sorted_by (Some h) r = elim (content_sorted_at P.header P.fill P.types owed.types h.kind h frame.payload) [
    | inl stands ↦ inl (λ now. let (c, shows) = stands now in (item h.kind c, (h, r, refl, shows)))
    | inr refused ↦ inr (λ now i shows. let (c, shown) = header_shows P now frame h i r shows in refused now c shown)
  ]

  pub frame_sorted : FrameStands P frame ⊎ FrameIsRefused P frame
  frame_sorted = sorted_by (read_header (words P.types) frame.header) refl

  -- what shows an item at one moment shows one at any
  pub frame_stands : (now : Cell) (i : Item) → ItemShows P now frame i → FrameStands P frame
  frame_stands now i shows = elim frame_sorted [ inl stands ↦ stands | inr refused ↦ absurd (refused now i shows) ]

  -- and what shows none at one moment shows none at any
  pub frame_refused : (now : Cell) → ((i : Item) → ItemShows P now frame i → ⊥) → FrameIsRefused P frame
  frame_refused now none = elim frame_sorted [ inl stands ↦ absurd (let (i, shows) = stands now in none i shows) | inr refused ↦ refused ]

pub frame_not_both : (P : Profile) (frame : Frame) → FrameStands P frame → FrameIsRefused P frame → ⊥
frame_not_both P frame stands refused = let (i, shows) = stands absent in refused absent i shows

pub line_not_both : (K : Kind) (line : List ℕ) → LineStands K line → LineIsRefused K line → ⊥
line_not_both K line stands refused = let (c, shows) = stands absent in refused absent c shows
