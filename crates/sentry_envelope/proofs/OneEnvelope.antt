-- At each moment bytes spell at most one envelope, where nothing is drawn.
use Rattle.std.proofs.Common.{◌≡◌, ℕ, zero, suc, List, [], ◌∷◌, Option, Some, refl, sym, ap, ap₂, ◌∙◌, subst}
use Rattle.std.proofs.lemmas.List.Elements.{All-head, All-tail}
use Rattle.std.specs.List.{All}
use Rattle.sentry_tables.specs.Cell.{Cell}
use Rattle.sentry_tables.specs.Kind.{Kind}
use Rattle.sentry_tables.specs.Drawn.{NothingDrawnInText}
use Rattle.sentry_tables.specs.Laws.{TextShows}
use Rattle.sentry_tables.specs.Lawful.{IsLawful}
use Rattle.sentry_tables.proofs.Laws.{text_shows_one}
use Rattle.sentry_framing.specs.Framing.{Frame, AreFrames, IsFramed}
use Rattle.sentry_framing.specs.ItemHeader.{Header, read_header}
use Rattle.sentry_framing.proofs.Verdicts.{same_first}
use Rattle.sentry_envelope.specs.Profile.{Form, attachment_form, opaque_form, json_form, container_form, ItemType, words, Profile, FormIsLawful, TypesAreLawful, ProfileLaws}
use Rattle.sentry_items.specs.Containers.{container_kind}
use Rattle.sentry_envelope.specs.Envelope.{Content, value, Item, item, raw, IsValue, reads, ContentShows, ContentShowsAt, ItemShows, ItemsStand, first_id}
use Rattle.sentry_envelope.specs.OneEnvelope.{PayloadDrawsNothing, PayloadDrawsNothingAt, FrameDrawsNothing, HasOneEnvelope}
use Rattle.sentry_envelope.proofs.EnvelopeAnswers.{some_remain}
use Rattle.sentry_envelope.proofs.EnvelopeBack.{envelopes_same}
use Rattle.sentry_framing.proofs.EnvelopeLine.{same_line}
use Rattle.sentry_items.proofs.Containers.{container_lawful}

-- ---- contents

value_single : (Q : Cell → Type 0) → ((c x : Cell) → Q c → Q x → c ≡ x) → (c x : Content) → IsValue Q c → IsValue Q x → c ≡ x
value_single Q one (value c) (value x) h k = ap value (one c x h k)
value_single Q one (value c) _ h k = absurd k
value_single Q one _ x h k = absurd h

payload_single : (K : Kind) → IsLawful K → (now : Cell) (payload : List ℕ) → NothingDrawnInText K payload
    → (c x : Content) → IsValue (TextShows K now payload) c → IsValue (TextShows K now payload) x → c ≡ x
payload_single K laws now payload drawn = value_single (TextShows K now payload) (λ c x. text_shows_one K laws now payload c x drawn)

content_single : (f : Form) → FormIsLawful f → (now : Cell) (h : Header) (payload : List ℕ) → PayloadDrawsNothing f payload
    → (c x : Content) → ContentShows f now h payload c → ContentShows f now h payload x → c ≡ x
content_single attachment_form laws now h payload drawn c x p q = p ∙ sym q
content_single opaque_form laws now h payload drawn c x p q = p ∙ sym q
content_single (json_form K) laws now h payload drawn c x p q = payload_single K laws now payload drawn c x p q
content_single (container_form content_type K) laws now h payload drawn c x p q = payload_single (container_kind K) (container_lawful K laws.0) now payload drawn c x p q

module _ (H : Kind) (fill : Cell → Cell → Cell) where
  content_single_at : (ts : List ItemType) → TypesAreLawful H fill ts → (n : ℕ) (now : Cell) (h : Header) (payload : List ℕ) → PayloadDrawsNothingAt ts n payload
      → (c x : Content) → ContentShowsAt ts n now h payload c → ContentShowsAt ts n now h payload x → c ≡ x
  content_single_at [] laws n now h payload drawn c x p q = absurd p
  content_single_at (t ∷ ts) laws zero now h payload drawn c x p q = content_single t.form laws.2 now h payload drawn c x p q
  content_single_at (t ∷ ts) laws (suc n) now h payload drawn c x p q = content_single_at ts laws.4 n now h payload drawn c x p q

-- ---- items

same_header : (o : Option Header) (h g : Header) → o ≡ Some h → o ≡ Some g → h ≡ g
same_header o h g e f = cc

module _ (P : Profile) (laws : ProfileLaws P) (now : Cell) where
  item_single : (frame : Frame) → FrameDrawsNothing P frame → (i j : Item) → ItemShows P now frame i → ItemShows P now frame j → i ≡ j
  item_single frame drawn raw j p q = absurd p
  item_single frame drawn (item n c) raw p q = absurd q
  item_single frame drawn (item n c) (item m x) (h, read, place, shows) (g, again, there, also) =
      let same : g ≡ h = same_header (read_header (words P.types) frame.header) g h again read in
      let places : m ≡ n = sym there ∙ ap (λ (y : Header). y.kind) same ∙ place in
      let moved : ContentShowsAt P.types n now g frame.payload x = subst (λ k. ContentShowsAt P.types k now g frame.payload x) places also in
      let shown : ContentShowsAt P.types n now h frame.payload x = subst (λ (y : Header). ContentShowsAt P.types n now y frame.payload x) same moved in
      let nothing : PayloadDrawsNothingAt P.types n frame.payload = subst (λ k. PayloadDrawsNothingAt P.types k frame.payload) place (drawn h read) in
      ap₂ item (sym places) (content_single_at P.header P.fill P.types laws.types n now h frame.payload nothing c x shows shown)

  -- items that stand are framed
  items_framed : (is : List Item) (body rest : List ℕ) → ItemsStand P now body is rest → (frames : List Frame) × AreFrames (reads P) body frames rest
  items_framed [] body rest p = ([], p)
  items_framed (i ∷ is) body rest (frame, next, first, shows, more) = let (frames, are) = items_framed is next rest more in (frame ∷ frames, (next, first, are))

  items_single : (body : List ℕ) → ((frames : List Frame) → IsFramed (reads P) body frames → All (FrameDrawsNothing P) frames)
      → (is js : List Item) → ItemsStand P now body is [] → ItemsStand P now body js [] → is ≡ js
  items_single body drawn [] [] p q = refl
  items_single body drawn [] (j ∷ js) p (frame, next, first, shows, more) = absurd (some_remain P body frame next first p)
  items_single body drawn (i ∷ is) [] (frame, next, first, shows, more) q = absurd (some_remain P body frame next first q)
  items_single body drawn (i ∷ is) (j ∷ js) (frame, next, first, shows, more) (other, later, second, also, others) =
      let (frames, bodies) = same_first (reads P) body other frame later next second first in
      let (left, are) = items_framed is next [] more in
      ap₂ (λ (x : Item) (xs : List Item). x ∷ xs)
      (item_single frame (All-head (FrameDrawsNothing P) frame left (drawn (frame ∷ left) (next, first, are))) i j shows (subst (λ f. ItemShows P now f j) frames also))
      (items_single next (λ fs framed. All-tail (FrameDrawsNothing P) frame fs (drawn (frame ∷ fs) (next, first, framed))) is js more (subst (λ b. ItemsStand P now b js []) bodies others))

-- ---- envelopes

pub one_envelope : (P : Profile) → ProfileLaws P → HasOneEnvelope P
one_envelope P laws bytes now e f drawn p q =
    let (lines, bodies) = same_line bytes q.line q.body p.line p.body q.parts p.parts in
    let headers : p.shown ≡ q.shown =
    text_shows_one P.header laws.header now p.line p.shown q.shown (drawn.header p.line p.body p.parts) p.line_shows
    (subst (λ l. TextShows P.header now l q.shown) lines q.line_shows) in
    let items : e.items ≡ f.items =
    items_single P laws now p.body (λ frames framed. drawn.items p.line p.body frames p.parts framed) e.items f.items p.items (subst (λ b. ItemsStand P now b f.items []) bodies q.items) in
    envelopes_same e f (p.header ∙ ap₂ P.fill (ap (first_id P.types) items) headers ∙ sym q.header) items
