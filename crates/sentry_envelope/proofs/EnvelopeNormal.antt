-- The normal form of an envelope is its own, is stored and plain, and is readable where the envelope is.
use Rattle.std.proofs.Common.{◌≡◌, ℕ, List, [], ◌∷◌, refl, sym, ap, ap₂, ◌∙◌, subst, arith}
use Rattle.sentry_tables.specs.Cell.{Cell}
use Rattle.sentry_tables.specs.Norm.{norm}
use Rattle.sentry_tables.proofs.Laws.{has_laws}
use Rattle.sentry_envelope.specs.Profile.{Profile, ProfileLaws}
use Rattle.sentry_envelope.specs.Envelope.{Content, Item, item, raw, first_id, content_norm, content_norm_at, items_norm, envelope_norm, ContentDemand, stored_content, plain_content, readable_content, ContentMeets, ContentMeetsAt, ItemsMeet, IsEnvelopeStored, IsEnvelopePlain, IsEnvelopeReadable}
use Rattle.sentry_envelope.specs.EnvelopeLaws.{EnvelopesAreStable}
use Rattle.sentry_envelope.proofs.EnvelopeTypes.{type_met, meets_at, norm_is, lawful_at}
use Rattle.sentry_envelope.proofs.EnvelopeContents.{content_stable}
use Rattle.sentry_envelope.proofs.EnvelopeIds.{ids_alike}
use Rattle.sentry_envelope.proofs.EnvelopeBack.{envelopes_same}

-- ---- items

-- the normal form of a list of items is its own, is stored and plain, and is readable where the list is
pub record AreItemsStable (P : Profile) (items : List Item) : Type 0 where
  pub again : items_norm P.types (items_norm P.types items) ≡ items_norm P.types items
  pub stored : ItemsMeet stored_content P.types (items_norm P.types items)
  pub plain : ItemsMeet plain_content P.types (items_norm P.types items)
  pub readable : ItemsMeet readable_content P.types items → ItemsMeet readable_content P.types (items_norm P.types items)

-- the same of the content of one item
record IsStableAt (P : Profile) (n : ℕ) (c : Content) : Type 0 where
  again : content_norm_at P.types n (content_norm_at P.types n c) ≡ content_norm_at P.types n c
  stored : ContentMeetsAt stored_content P.types n (content_norm_at P.types n c)
  plain : ContentMeetsAt plain_content P.types n (content_norm_at P.types n c)
  readable : ContentMeetsAt readable_content P.types n c → ContentMeetsAt readable_content P.types n (content_norm_at P.types n c)

module _ (P : Profile) (laws : ProfileLaws P) where
  item_stable : (n : ℕ) (c : Content) → ContentMeetsAt stored_content P.types n c → ContentMeetsAt plain_content P.types n c → IsStableAt P n c
  item_stable n c s p =
      let (t, at) = type_met stored_content P.types n c s in
      let own = lawful_at at P.header P.fill laws.types in
      let met = λ (G : ContentDemand) (x : Content) (h : ContentMeetsAt G P.types n x). subst (λ X. X) (meets_at at G x) h in
      let stable = content_stable t.form c own.form (met stored_content c s) (met plain_content c p) in
      let kept = λ (G : ContentDemand) (h : ContentMeets G t.form (content_norm t.form c)).
      subst (ContentMeetsAt G P.types n) (sym (norm_is at c)) (subst (λ X. X) (sym (meets_at at G (content_norm t.form c))) h) in
      record {
        again = ap (content_norm_at P.types n) (norm_is at c) ∙ norm_is at (content_norm t.form c) ∙ stable.again ∙ sym (norm_is at c);
        stored = kept stored_content stable.stored;
        plain = kept plain_content stable.plain;
        readable = λ r. kept readable_content (stable.readable (met readable_content c r));
      }

  pub items_stable : (items : List Item) → ItemsMeet stored_content P.types items → ItemsMeet plain_content P.types items → AreItemsStable P items
  items_stable [] s p = record { again = refl; stored = tt; plain = tt; readable = λ r. tt }
  items_stable (item n c ∷ items) s p =
      let here = item_stable n c s.0 p.0 in
      let more = items_stable items s.1 p.1 in
      record {
        again = ap₂ (λ x xs. item n x ∷ xs) here.again more.again;
        stored = (here.stored, more.stored);
        plain = (here.plain, more.plain);
        readable = λ r. (here.readable r.0, more.readable r.1);
      }
  items_stable (raw ∷ items) s p =
      let more = items_stable items s p in
      record { again = more.again; stored = more.stored; plain = more.plain; readable = more.readable }

  -- ---- envelopes

  pub stable : EnvelopesAreStable P
  unfolding envelope_norm IsEnvelopeStored IsEnvelopePlain IsEnvelopeReadable
  stable e s p =
      let header = (has_laws P.header laws.header).stable e.header s.0 p.0 in
      let items = items_stable e.items s.1 p.1 in
      let (ids, fills) = ids_alike P.header P.fill laws.unfilled P.types laws.types e.items s.1 p.1 in
      let id : Cell = first_id P.types e.items in
      let m : Cell = norm P.header e.header in
      record {
        again = envelopes_same (envelope_norm P (envelope_norm P e)) (envelope_norm P e) (ap₂ P.fill ids (fills.fill_norm m header.stored header.plain ∙ ap (P.fill id) header.again) ∙ fills.fill_twice m) items.again;
        stored = (fills.fill_stored m header.stored, items.stored);
        plain = (fills.fill_plain m header.plain, items.plain);
        readable = λ r.
            let filled = fills.fill_depth m header.stored in
            let normal = header.depth in
            let shallow = r.1 in
            (fills.fill_readable m (header.readable r.0), omega arith, items.readable r.2);
      }
