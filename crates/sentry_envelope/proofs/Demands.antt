-- An envelope meets a demand where its header and its items do.
use Rattle.std.proofs.Common.{◌≡◌, ◌↔◌, ◌<◌, ◌^◌, ℕ, List, [], ◌∷◌, length, Bool, true, false, sym, subst, ◌∙◌, IsTrue}
use Rattle.std.proofs.lemmas.Bool.{false≢true}
use Rattle.std.specs.Prelude.{map, Vec, Option, Some, None, IsSomeAnd, IfSome}
use Rattle.std.specs.declared.alloc.Global.{Global}
use Rattle.sentry_tables.specs.Cell.{Cell}
use Rattle.sentry_tables.specs.Meets.{IsPlain, IsStored}
use Rattle.sentry_items.specs.Meets.{IsItemPlain, IsItemStored}
use Rattle.sentry_items.specs.View.{item_held}
use Rattle.sentry_items.specs.declared.container.ItemContainer.TheVariants as containers
use Rattle.sentry_items.specs.declared.item.EnvelopeItem.{EnvelopeItem}
use Rattle.sentry_items.specs.declared.item.EnvelopeItem.TheVariants as item_variants
use Rattle.sentry_envelope.specs.Envelope.{Envelope as Model, plain_content, stored_content, ItemsMeet, IsEnvelopePlain, IsEnvelopeSized, IsEnvelopeStored}
use Rattle.sentry_envelope.specs.EnvelopeView.{item_view, header_of, structured, structured_by, held, held_in, Held, items, bytes, StoredAndPlainBy, PartsAreStoredAndPlain, text_by, text_of}
use Rattle.sentry_envelope.specs.HeaderFields.{header_kind}
use Rattle.sentry_envelope.specs.SentryProfile.{item_types, profile}
use Rattle.sentry_envelope.proofs.EnvelopeSized.{short}
use Rattle.sentry_envelope.specs.declared.envelope.Contents.{Contents}
use Rattle.sentry_envelope.specs.declared.envelope.Contents.TheVariants as variants
use Rattle.sentry_envelope.specs.declared.envelope.Envelope.{Envelope}

-- ---- one item

pub item_plain : (i : EnvelopeItem) (r : Bool) → (IsTrue r ↔ IsItemPlain (item_held i)) → IsTrue r ↔ ItemsMeet plain_content item_types (item_view i ∷ [])
item_plain item_variants.Raw r is = (λ t. tt, λ m. is.1 tt)
item_plain (item_variants.ItemContainer (containers.Logs logs)) r is = (λ t. (is.0 t, tt), λ m. is.1 m.0)
item_plain (item_variants.ItemContainer (containers.Metrics metrics)) r is = (λ t. (is.0 t, tt), λ m. is.1 m.0)
item_plain _ r is = (λ t. (is.0 t, tt), λ m. is.1 m.0)

pub item_stored : (i : EnvelopeItem) (r : Bool) → (IsTrue r → IsItemStored (item_held i)) → IsTrue r → ItemsMeet stored_content item_types (item_view i ∷ [])
item_stored item_variants.Raw r is t = tt
item_stored (item_variants.ItemContainer (containers.Logs logs)) r is t = (is t, tt)
item_stored (item_variants.ItemContainer (containers.Metrics metrics)) r is t = (is t, tt)
item_stored _ r is t = (is t, tt)

-- ---- an envelope

module _ (e : Envelope) (r : Bool) (items : Vec EnvelopeItem Global) (is : e.contents ≡ variants.Items items) where
  abbrev IsPlainIn : Contents → Type 0
  IsPlainIn contents = IsSomeAnd (structured_by (header_of e) (held_in contents)) (IsEnvelopePlain profile)

  abbrev IsStoredIn : Contents → Type 0
  IsStoredIn contents = IsSomeAnd (structured_by (header_of e) (held_in contents)) (IsEnvelopeStored profile)

  -- where the header is plain, the items decide
  pub plain_by_items : (a : Bool) → a ≡ true → (IsTrue a ↔ IsPlain header_kind (header_of e)) → IsTrue r ↔ ItemsMeet plain_content item_types (map item_view items.items)
      → IsTrue r ↔ IsSomeAnd (structured e) (IsEnvelopePlain profile)
  unfolding profile IsEnvelopePlain
  plain_by_items a so header meets = subst (λ x. IsTrue r ↔ IsPlainIn x) (sym is) ((λ t. (header.0 so, meets.0 t)), (λ p. meets.1 p.1))

  pub stored_by_items : (a : Bool) → a ≡ true → (IsTrue a → IsStored header_kind (header_of e)) → (IsTrue r → ItemsMeet stored_content item_types (map item_view items.items))
      → IsTrue r → IsSomeAnd (structured e) (IsEnvelopeStored profile)
  unfolding profile IsEnvelopeStored
  stored_by_items a so header meets t = subst IsStoredIn (sym is) (header so, meets t)

  -- and where it isn't, the envelope isn't
  pub not_plain_header : (a : Bool) → a ≡ false → (IsTrue a ↔ IsPlain header_kind (header_of e)) → r ≡ false → IsTrue r ↔ IsSomeAnd (structured e) (IsEnvelopePlain profile)
  unfolding profile IsEnvelopePlain
  not_plain_header a isnt header none = subst (λ x. IsTrue r ↔ IsPlainIn x) (sym is) ((λ t. absurd (false≢true (sym none ∙ t))), (λ p. absurd (false≢true (sym isnt ∙ header.1 p.0))))

-- the parts of an envelope that is plain and stored can be written
stored_and_plain_held : (h : Cell) (x : Held) → IsSomeAnd (structured_by h x) (IsEnvelopePlain profile) → IsSomeAnd (structured_by h x) (IsEnvelopeStored profile) → StoredAndPlainBy h x
unfolding profile IsEnvelopePlain IsEnvelopeStored
stored_and_plain_held h (items is) p s = ((s.0, p.0), (s.1, p.1))
stored_and_plain_held h (bytes b) p s = tt

pub stored_and_plain_parts : (e : Envelope) (r : Bool) → (IsTrue r ↔ IsSomeAnd (structured e) (IsEnvelopePlain profile)) → (IsTrue r → IsSomeAnd (structured e) (IsEnvelopeStored profile)) → r ≡ true → PartsAreStoredAndPlain e
stored_and_plain_parts e r plain stored is = stored_and_plain_held (header_of e) (held e) (plain.0 is) (stored is)

-- what is told of a structured envelope holds where an envelope is structured
if_structured : (P : Model → Type 0) (m : Option Model) → IsSomeAnd m P → IfSome m P
if_structured P None none = absurd none
if_structured P (Some m) holds = holds

pub plain_where_structured : (e : Envelope) (r : Bool) → (IsTrue r ↔ IsSomeAnd (structured e) (IsEnvelopePlain profile)) → r ≡ true → IfSome (structured e) (IsEnvelopePlain profile)
plain_where_structured e r plain is = if_structured (IsEnvelopePlain profile) (structured e) (plain.0 is)

pub stored_where_structured : (e : Envelope) (r : Bool) → (IsTrue r → IsSomeAnd (structured e) (IsEnvelopeStored profile)) → r ≡ true → IfSome (structured e) (IsEnvelopeStored profile)
stored_where_structured e r stored is = if_structured (IsEnvelopeStored profile) (structured e) (stored is)

-- what is written is sized, since its text stood in memory
sized_held : (h : Cell) (x : Held) → length (text_by h x) < 2 ^ 64 → IfSome (structured_by h x) (IsEnvelopeStored profile) → IfSome (structured_by h x) (IsEnvelopeSized profile)
sized_held h (items is) in_memory stored = short profile (record { header = h; items = is }) stored in_memory
sized_held h (bytes b) in_memory stored = tt

pub sized_where_written : (e : Envelope) (text : List ℕ) → text ≡ text_of e → length text < 2 ^ 64 → IfSome (structured e) (IsEnvelopeStored profile) → IfSome (structured e) (IsEnvelopeSized profile)
sized_where_written e text is in_memory stored = sized_held (header_of e) (held e) (subst (λ t. length t < 2 ^ 64) is in_memory) stored
