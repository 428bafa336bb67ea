-- One text for each normal form, and what is spelled is written as its normal form is.
use Rattle.std.proofs.Common.{◌≡◌, ◌<◌, ◌^◌, ℕ, Bool, true, false, cond, List, [], ◌∷◌, filter, Some, refl, sym, ap, ap₂, ◌∙◌, subst}
use Rattle.std.specs.Prelude.{⊤}
use Rattle.serde_json.specs.Written.{compact_text}
use Rattle.sentry_tables.specs.Cell.{Cell, absent}
use Rattle.sentry_tables.specs.Norm.{norm}
use Rattle.sentry_tables.specs.Written.{tree}
use Rattle.sentry_tables.specs.Meets.{IsPlain, IsStored}
use Rattle.sentry_tables.specs.Lawful.{IsMoment}
use Rattle.sentry_tables.proofs.Laws.{has_laws}
use Rattle.sentry_framing.specs.Framing.{Frame, with_line}
use Rattle.sentry_framing.specs.ItemHeader.{Header}
use Rattle.sentry_envelope.specs.Profile.{words, Profile, ProfileLaws}
use Rattle.sentry_envelope.specs.Envelope.{Content, Item, item, raw, Envelope, Spells, ContentShows, ContentShowsAt, ItemShows, ItemsStand, first_id, frame_by, frame_at, frame_text, items_text, envelope_text, content_norm, content_norm_at, items_norm, envelope_norm, stated_at, ItemsAreSized, IsEnvelopeSized, ContentDemand, stored_content, plain_content, ContentMeets, ContentMeetsAt, ItemsMeet, IsEnvelopeStored, IsEnvelopePlain, IsEnvelopeReadable}
use Rattle.sentry_envelope.specs.EnvelopeLaws.{IsFit, EnvelopesHaveOneForm, EnvelopesAreRewritten, RewritingTwiceIsOnce, NormalFormsAreSized, SpelledHaveOneForm}
use Rattle.sentry_envelope.proofs.EnvelopeTypes.{type_held, shows_at, meets_at, frame_is, norm_is, stated_is, lawful_at}
use Rattle.sentry_envelope.proofs.EnvelopeWrittenHeaders.{AreTexts, header_texts}
use Rattle.sentry_envelope.proofs.EnvelopeContents.{content_rewritten, stated_norm}
use Rattle.sentry_envelope.proofs.EnvelopeFill.{IsWrittenAsNormal}
use Rattle.sentry_envelope.proofs.EnvelopeIds.{ids_alike}
use Rattle.sentry_envelope.proofs.EnvelopeBack.{back}
use Rattle.sentry_envelope.proofs.EnvelopeNormal.{stable}

-- ---- items

-- items that are shown are stored and plain, and are written as their normal form is
pub record AreItemsRewritten (P : Profile) (items : List Item) : Type 0 where
  pub stored : ItemsMeet stored_content P.types items
  pub plain : ItemsMeet plain_content P.types items
  pub alike : items_text P items ≡ items_text P (items_norm P.types items)
  pub sized : ItemsAreSized P.types items → ItemsAreSized P.types (items_norm P.types items)

-- the same of the content of one item
pub record IsRewrittenAt (P : Profile) (n : ℕ) (c : Content) : Type 0 where
  pub stored : ContentMeetsAt stored_content P.types n c
  pub plain : ContentMeetsAt plain_content P.types n c
  pub alike : frame_at P.types n c ≡ frame_at P.types n (content_norm_at P.types n c)
  pub stated : stated_at P.types n (content_norm_at P.types n c) ≡ stated_at P.types n c

-- the same of each item
abbrev pub IsEachRewritten : Profile → List Item → Type 0
IsEachRewritten P [] = ⊤
IsEachRewritten P (item n c ∷ items) = IsRewrittenAt P n c × IsEachRewritten P items
IsEachRewritten P (raw ∷ items) = ⊥

-- so also of those that are chosen
one_chosen : (P : Profile) (wanted : Bool) (n : ℕ) (c : Content) (chosen : List Item) → IsRewrittenAt P n c → IsEachRewritten P chosen → IsEachRewritten P (cond wanted (item n c ∷ chosen) chosen)
one_chosen P true n c chosen here others = (here, others)
one_chosen P false n c chosen here others = others

pub chosen_rewritten : (P : Profile) (p : Item → Bool) (items : List Item) → IsEachRewritten P items → IsEachRewritten P (filter p items)
chosen_rewritten P p [] each = tt
chosen_rewritten P p (item n c ∷ items) each = one_chosen P (p (item n c)) n c (filter p items) each.0 (chosen_rewritten P p items each.1)
chosen_rewritten P p (raw ∷ items) each = absurd each

pub are_rewritten : (P : Profile) (items : List Item) → IsEachRewritten P items → AreItemsRewritten P items
are_rewritten P [] each = record { stored = tt; plain = tt; alike = refl; sized = λ h. tt }
are_rewritten P (item n c ∷ items) each =
    let here = each.0 in
    let others = are_rewritten P items each.1 in
    record {
      stored = (here.stored, others.stored);
      plain = (here.plain, others.plain);
      alike = ap₂ frame_text here.alike others.alike;
      sized = λ h. (subst (λ m. m < 2 ^ 64) (sym here.stated) h.0, others.sized h.1);
    }
are_rewritten P (raw ∷ items) each = absurd each

module _ (P : Profile) (laws : ProfileLaws P) where
  item_rewritten : (n : ℕ) (c : Content) (h : Header) (payload : List ℕ) (now : Cell) → IsMoment now → AreTexts h → ContentShowsAt P.types n now h payload c → IsRewrittenAt P n c
  item_rewritten n c h payload now moment texts shown =
      let (t, at) = type_held P.types n (λ t. ContentShows t.form now h payload c) shown in
      let own = lawful_at at P.header P.fill laws.types in
      let here = content_rewritten t.word t.form c h payload now own.form moment texts (subst (λ X. X) (shows_at at now h payload c) shown) in
      let met = λ (G : ContentDemand) (m : ContentMeets G t.form c). subst (λ X. X) (sym (meets_at at G c)) m in
      record {
        stored = met stored_content here.stored;
        plain = met plain_content here.plain;
        alike = frame_is at c ∙ ap Some here.alike ∙ ap (λ x. Some (frame_by t x)) (sym (norm_is at c)) ∙ sym (frame_is at (content_norm_at P.types n c));
        stated = ap (stated_at P.types n) (norm_is at c) ∙ stated_is at (content_norm t.form c) ∙ stated_norm t.word t.form c here.stored here.alike ∙ sym (stated_is at c);
      }

  pub each_rewritten : (now : Cell) → IsMoment now → (items : List Item) (body : List ℕ) → ItemsStand P now body items [] → IsEachRewritten P items
  each_rewritten now moment [] body h = tt
  each_rewritten now moment (item n c ∷ items) body (f, next, first, (h, read, kind, shown), more) =
      (item_rewritten n c h f.payload now moment (header_texts (words P.types) f.header h read) shown, each_rewritten now moment items next more)
  each_rewritten now moment (raw ∷ items) body (f, next, first, shown, more) = absurd shown

  pub items_rewritten : (now : Cell) → IsMoment now → (items : List Item) (body : List ℕ) → ItemsStand P now body items [] → AreItemsRewritten P items
  items_rewritten now moment items body h = are_rewritten P items (each_rewritten now moment items body h)

  pub item_met : (now : Cell) → IsMoment now → (frame : Frame) (i : Item) → ItemShows P now frame i → ItemsMeet stored_content P.types (i ∷ []) × ItemsMeet plain_content P.types (i ∷ [])
  item_met now moment frame (item n c) (h, read, kind, shown) =
      let here = item_rewritten n c h frame.payload now moment (header_texts (words P.types) frame.header h read) shown in
      ((here.stored, tt), (here.plain, tt))
  item_met now moment frame raw shown = absurd shown

  -- ---- envelopes

  -- an envelope whose header is one that is written as its normal form is, filled by the items' id
  pub filled_rewritten : (e : Envelope) (h : Cell) → e.header ≡ P.fill (first_id P.types e.items) h → IsWrittenAsNormal P.header h → AreItemsRewritten P e.items
      → IsEnvelopeStored P e × IsEnvelopePlain P e × (envelope_text P e ≡ envelope_text P (envelope_norm P e))
  unfolding envelope_text envelope_norm IsEnvelopeStored IsEnvelopePlain
  filled_rewritten e h header (stored, plain, alike) items =
      let fills = (ids_alike P.header P.fill laws.unfilled P.types laws.types e.items items.stored items.plain).1 in
      let id : Cell = first_id P.types e.items in
      let normal : P.fill id (norm P.header e.header) ≡ P.fill id (norm P.header h) =
      ap (λ x. P.fill id (norm P.header x)) header ∙ ap (P.fill id) (fills.fill_norm h stored plain) ∙ fills.fill_twice (norm P.header h) in
      let trees : tree P.header e.header ≡ tree P.header (P.fill id (norm P.header e.header)) =
      ap (tree P.header) header ∙ fills.fill_tree h stored plain alike ∙ ap (tree P.header) (sym normal) in (
        (subst (IsStored P.header) (sym header) (fills.fill_stored h stored), items.stored),
        (subst (IsPlain P.header) (sym header) (fills.fill_plain h plain), items.plain),
        ap₂ (λ d body. with_line (compact_text d) body) trees items.alike,
      )

  pub rewritten : EnvelopesAreRewritten P
  rewritten bytes now e moment h = filled_rewritten e h.shown h.header ((has_laws P.header laws.header).text_rewritten h.line h.shown now moment h.line_shows) (items_rewritten now moment e.items h.body h.items)

  -- envelopes whose normal forms have one text have one normal form
  alike : (a b : Envelope) → IsFit P a → IsFit P b → envelope_text P (envelope_norm P a) ≡ envelope_text P (envelope_norm P b) → envelope_norm P a ≡ envelope_norm P b
  alike a b p q e =
      let s = stable P laws a p.stored p.plain in
      let t = stable P laws b q.stored q.plain in
      let m : Envelope = envelope_norm P a in
      let n : Envelope = envelope_norm P b in
      let spells = (back P laws n absent t.stored t.plain (t.readable q.readable) q.sized).0 in
      let only = (back P laws m absent s.stored s.plain (s.readable p.readable) p.sized).1 in
      sym s.again ∙ sym (only (envelope_norm P n) (subst (λ text. Spells P text absent (envelope_norm P n)) (sym e) spells)) ∙ t.again

  pub one_form : EnvelopesHaveOneForm P
  one_form a b p q = (λ e. ap (envelope_text P) e, alike a b p q)

  pub twice : RewritingTwiceIsOnce P
  twice bytes now later e f moment h readable sized again =
      let (stored, plain, text) = rewritten bytes now e moment h in
      ap (envelope_text P) ((back P laws e later stored plain readable sized).1 f again) ∙ sym text

  pub normal_sized : NormalFormsAreSized P
  unfolding envelope_norm IsEnvelopeSized
  normal_sized bytes now e moment h = (items_rewritten now moment e.items h.body h.items).sized

  -- what bytes spell is read back, where it is readable and sized
  fit : (bytes : List ℕ) (now : Cell) (e : Envelope) → IsMoment now → Spells P bytes now e → IsEnvelopeReadable P e → IsEnvelopeSized P e → IsFit P e
  fit bytes now e moment h readable sized =
      let (stored, plain, text) = rewritten bytes now e moment h in
      record { stored = stored; plain = plain; readable = readable; sized = normal_sized bytes now e moment h sized }

  pub spelled_one_form : SpelledHaveOneForm P
  spelled_one_form bytes others now later a b moment also h k r s p q =
      let forms = one_form a b (fit bytes now a moment h r p) (fit others later b also k s q) in
      let first = (rewritten bytes now a moment h).2 in
      let second = (rewritten others later b also k).2 in
      (λ same. first ∙ forms.0 same ∙ sym second, λ same. forms.1 (sym first ∙ same ∙ second))
