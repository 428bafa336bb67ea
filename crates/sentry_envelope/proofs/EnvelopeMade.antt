-- Envelopes made anew.
use Rattle.std.specs.declared.alloc.Global.{Global}
use Rattle.std.proofs.Common.{◌≡◌, ℕ, suc, length, ◌<◌, ◌≤◌, ◌+◌, List, [], ◌∷◌, ◌++◌, Bool, true, false, Option, Some, None, Result, Ok, Err, map, drop, drop-cons, add-one, get_or, append_assoc, refl, sym, ap, ap₂, ◌∙◌, subst}
use Rattle.std.proofs.Math.ListN.{drop_of_length-le}
use Rattle.std.proofs.lemmas.List.{append-nil, map-append}
use Rattle.std.proofs.lemmas.Option.{same_Some}
use Rattle.std.specs.Prelude.{◌↔◌, IfOk, IfSome, IsSome, IsSomeAnd, IsTrue}
use Rattle.sentry_tables.specs.Made.{made}
use Rattle.sentry_tables.specs.declared.way.Way.{Way}
use Rattle.sentry_tables.specs.declared.way.Way.TheVariants.{Same, Normal}
use Rattle.sentry_tables.specs.Cell.{Cell}
use Rattle.sentry_items.specs.Made.{item_made}
use Rattle.sentry_items.specs.View.{item_held}
use Rattle.sentry_items.specs.declared.container.ItemContainer.TheVariants as containers
use Rattle.sentry_items.specs.declared.item.EnvelopeItem.{EnvelopeItem}
use Rattle.sentry_items.specs.declared.item.EnvelopeItem.TheVariants as item_variants
use Rattle.uuid.specs.declared.Uuid.{Uuid}
use Rattle.sentry_envelope.specs.Envelope.{Item, item, raw, Envelope as Model, envelope_text, envelope_norm, IsEnvelopeStored, IsEnvelopePlain, IsEnvelopeReadable, IsEnvelopeSized}
use Rattle.sentry_envelope.specs.EnvelopeMade.{stands, items_made, header_made, IsMadeBy, IsMade, IsNormalForm, SpellsAlone}
use Rattle.sentry_envelope.specs.EnvelopeView.{Held, items, bytes, bytes_in, held, header_of, placed, item_view, structured, structured_by, raw_bytes, IsSame}
use Rattle.sentry_envelope.specs.Filter.{first_id_of}
use Rattle.sentry_envelope.specs.HeaderFields.{header_kind, fill_id, given_id}
use Rattle.sentry_envelope.specs.SentryProfile.{profile}
use Rattle.sentry_envelope.specs.declared.envelope.Envelope.{Envelope}
use Rattle.sentry_envelope.proofs.EnvelopeBack.{back}
use Rattle.sentry_envelope.proofs.EnvelopeNormal.{stable}
use Rattle.sentry_envelope.proofs.ItemIds.{first_given}
use Rattle.sentry_envelope.proofs.SentryProfile.{profile_lawful}

-- ---- items

-- an item that stands in what is made, made anew, and then the others
item_then : (way : Way) (x : EnvelopeItem) (is : List Item) → stands way (item_view x) ≡ true → items_made way (item_view x ∷ is) ≡ placed (item_made way (item_held x)) ∷ items_made way is
unfolding stands items_made item_made
item_then Same x is there = refl
item_then (Normal alloc) item_variants.Raw is there = absurd cc
item_then (Normal alloc) (item_variants.ItemContainer (containers.Logs logs)) is there = refl
item_then (Normal alloc) (item_variants.ItemContainer (containers.Metrics metrics)) is there = refl
item_then (Normal alloc) _ is there = refl

-- one that does not, and then the others
others_then : (way : Way) (i : Item) (is : List Item) → stands way i ≡ false → items_made way (i ∷ is) ≡ items_made way is
unfolding stands items_made
others_then Same i is gone = absurd cc
others_then (Normal alloc) (item n c) is gone = absurd cc
others_then (Normal alloc) raw is gone = refl

nothing_made : (way : Way) → items_made way [] ≡ []
unfolding items_made
nothing_made Same = refl
nothing_made (Normal alloc) = refl

-- ---- headers

pub header_same : (way : Way) (h r : Cell) (is : List Item) → way ≡ Same → r ≡ made way header_kind h → r ≡ header_made way h is
unfolding made header_made
header_same Same h r is same e = e
header_same (Normal alloc) h r is same e = absurd cc

pub header_normal : {alloc : Global} (way : Way) (h m r : Cell) (id : Option Uuid) (xs : List EnvelopeItem) → way ≡ Normal alloc → m ≡ made way header_kind h → id ≡ first_id_of xs → r ≡ fill_id (given_id id) m
    → r ≡ header_made way h (map item_view xs)
unfolding made header_made
header_normal Same h m r id xs normal e first filled = absurd cc
header_normal (Normal alloc) h m r id xs normal e first filled = filled ∙ ap₂ fill_id (ap given_id first ∙ sym (first_given xs)) e

-- ---- one item more

module _ (way : Way) (xs : List EnvelopeItem) (i : ℕ) (x : EnvelopeItem) (within : i < length xs) (is : x ≡ get_or xs i x) (done : List EnvelopeItem) (all : List Item) where
  abbrev others : List EnvelopeItem
  others = drop (i + 1) xs

  first_is : drop i xs ≡ x ∷ others
  first_is = rw add-one (drop-cons xs i x within ∙ ap (λ y. y ∷ drop (suc i) xs) (sym is))

  pub one_made : (y : EnvelopeItem) (new : List EnvelopeItem) → stands way (item_view x) ≡ true → item_held y ≡ item_made way (item_held x) → new ≡ done ++ y ∷ []
      → map item_view done ++ items_made way (map item_view (drop i xs)) ≡ all → map item_view new ++ items_made way (map item_view others) ≡ all
  one_made y new there made pushed so_far =
      let rest = items_made way (map item_view others) in
      ap (λ ys. map item_view ys ++ rest) pushed ∙ ap (λ ys. ys ++ rest) (map-append item_view done (y ∷ [])) ∙ append_assoc (map item_view done) (item_view y ∷ []) rest
      ∙ ap (λ v. map item_view done ++ placed v ∷ rest) made ∙ ap (λ ys. map item_view done ++ ys) (sym (item_then way x (map item_view others) there))
      ∙ ap (λ ys. map item_view done ++ items_made way (map item_view ys)) (sym first_is) ∙ so_far

  pub none_made : stands way (item_view x) ≡ false → map item_view done ++ items_made way (map item_view (drop i xs)) ≡ all → map item_view done ++ items_made way (map item_view others) ≡ all
  none_made gone so_far =
      ap (λ ys. map item_view done ++ ys) (sym (others_then way (item_view x) (map item_view others) gone)) ∙ ap (λ ys. map item_view done ++ items_made way (map item_view ys)) (sym first_is) ∙ so_far

-- no items are left
pub all_made : (way : Way) (xs : List EnvelopeItem) (i : ℕ) (done : List EnvelopeItem) (all : List Item) → length xs ≤ i → map item_view done ++ items_made way (map item_view (drop i xs)) ≡ all → map item_view done ≡ all
all_made way xs i done all past so_far =
    sym (append-nil (map item_view done)) ∙ ap (λ ys. map item_view done ++ ys) (sym (nothing_made way)) ∙ ap (λ ys. map item_view done ++ items_made way (map item_view ys)) (sym (drop_of_length-le xs past)) ∙ so_far

-- ---- envelopes

module _ (e n : Envelope) where
  same_by : (h : Cell) (x : Held) → IsMadeBy Same h x n → (header_of n ≡ h) × (held n ≡ x)
  unfolding items_made header_made
  same_by h (items is) m = m
  same_by h (bytes b) m = m

  -- an envelope that is made the same is the same
  pub same_made : IsMade Same e n → IsSame n e
  same_made m = same_by (header_of e) (held e) m

module _ {alloc : Global} (e n : Envelope) where
  normal_by : (h : Cell) (x : Held) (m : Model) → structured_by h x ≡ Some m → IsMadeBy (Normal alloc) h x n → structured n ≡ Some (envelope_norm profile m)
  unfolding items_made header_made profile envelope_norm
  normal_by h (items is) m some made =
      ap₂ structured_by made.0 made.1 ∙ ap (λ x. Some (envelope_norm profile x)) (same_Some (record { header = h; items = is }) m some)
  normal_by h (bytes b) m some made = absurd cc

  raw_by : (h : Cell) (x : Held) → IsSome (bytes_in x) → IsMadeBy (Normal alloc) h x n → (header_of n ≡ h) × (held n ≡ x)
  raw_by h (items is) some made = absurd cc
  raw_by h (bytes b) some made = made

  -- a raw envelope gives its copy
  pub raw_copied : IsMade (Normal alloc) e n → IsSome (raw_bytes e) → IsSame n e
  raw_copied made some = raw_by (header_of e) (held e) some made

  -- of a structured one
  pub normal_is : IsMade (Normal alloc) e n → (m : Model) → structured e ≡ Some m → structured n ≡ Some (envelope_norm profile m)
  normal_is made m some = normal_by (header_of e) (held e) m some made

-- ---- what the normal form is

-- each promise of the normal form n of a stored and plain envelope m
module _ {alloc : Global} (e n : Envelope) (made : IsMade (Normal alloc) e n) (m : Model) (some : structured e ≡ Some m) (s : IsEnvelopeStored profile m) (p : IsEnvelopePlain profile m) where
  told : (Q : Model → Type 0) → Q (envelope_norm profile m) → IsSomeAnd (structured n) Q
  told Q q = subst (λ o. IsSomeAnd o Q) (sym (normal_is e n made m some)) q

  pub own_form : IsSomeAnd (structured n) (IsNormalForm profile)
  own_form = let own = stable profile profile_lawful m s p in told (IsNormalForm profile) (record { stored = own.stored; plain = own.plain; own = own.again })

  pub readable_form : IsEnvelopeReadable profile m → IsSomeAnd (structured n) (IsEnvelopeReadable profile)
  readable_form r = told (IsEnvelopeReadable profile) ((stable profile profile_lawful m s p).readable r)

  pub form_read_back : IsEnvelopeReadable profile m → IsEnvelopeSized profile m → IsSomeAnd (structured n) (SpellsAlone profile (envelope_text profile m))
  form_read_back r sized =
      told (SpellsAlone profile (envelope_text profile m))
      (record { spells = λ now. (back profile profile_lawful m now s p r sized).0; only = λ now. (back profile profile_lawful m now s p r sized).1 })

-- ---- answers

if_some : (o : Option Model) (Q : Model → Type 0) → ((m : Model) → o ≡ Some m → Q m) → IfSome o Q
if_some None Q f = tt
if_some (Some m) Q f = f m refl

-- what is told of what was made, is told of the answer
module _ {alloc : Global} (e : Envelope) (T : Envelope → Type 0) (f : (n : Envelope) → IsMade (Normal alloc) e n → T n) where
  answered : {E : Type 0} (r : Result Envelope E) → IfOk r (IsMade (Normal alloc) e) → IfOk r T
  answered (Ok n) made = f n made
  answered (Err x) made = tt

module _ {alloc : Global} {E : Type 0} (e : Envelope) (r : Result Envelope E) (made : IfOk r (IsMade (Normal alloc) e)) where
  pub answers_normal : IfOk r (λ n. IfSome (structured e) (λ m. structured n ≡ Some (envelope_norm profile m)))
  answers_normal = answered e _ (λ n is. if_some (structured e) (λ m. structured n ≡ Some (envelope_norm profile m)) (normal_is e n is)) r made

  pub answers_raw : IfOk r (λ n. IsSome (raw_bytes e) → IsSame n e)
  answers_raw = answered e _ (λ n is. raw_copied e n is) r made

-- of a plain envelope, as the call tells that asks whether it is plain, more is told: it is stored
module _ {alloc : Global} {E : Type 0} (e : Envelope) (r : Result Envelope E) (b : Bool) (made : IfOk r (IsMade (Normal alloc) e)) (plain : IsTrue b ↔ IsSomeAnd (structured e) (IsEnvelopePlain profile))
    (stored : IsTrue b → IsSomeAnd (structured e) (IsEnvelopeStored profile)) where
  is_stored : (m : Model) → structured e ≡ Some m → IsEnvelopePlain profile m → IsEnvelopeStored profile m
  is_stored m some p =
      let told : IsSomeAnd (structured e) (IsEnvelopePlain profile) = subst (λ o. IsSomeAnd o (IsEnvelopePlain profile)) (sym some) p in
      subst (λ o. IsSomeAnd o (IsEnvelopeStored profile)) some (stored (plain.1 told))

  pub answers_own : IfOk r (λ n. IfSome (structured e) (λ m. IsEnvelopePlain profile m → IsSomeAnd (structured n) (IsNormalForm profile)))
  answers_own =
      answered e _ (λ n is. if_some (structured e) (λ m. IsEnvelopePlain profile m → IsSomeAnd (structured n) (IsNormalForm profile)) (λ m some p. own_form e n is m some (is_stored m some p) p)) r made

  abbrev Readable : Envelope → Model → Type 0
  Readable n m = IsEnvelopePlain profile m → IsEnvelopeReadable profile m → IsSomeAnd (structured n) (IsEnvelopeReadable profile)

  pub answers_readable : IfOk r (λ n. IfSome (structured e) (Readable n))
  answers_readable = answered e _ (λ n is. if_some (structured e) (Readable n) (λ m some p. readable_form e n is m some (is_stored m some p) p)) r made

  abbrev ReadBack : Envelope → Model → Type 0
  ReadBack n m =
      IsEnvelopePlain profile m → IsEnvelopeReadable profile m → IsEnvelopeSized profile m
      → IsSomeAnd (structured n) (SpellsAlone profile (envelope_text profile m))

  pub answers_read_back : IfOk r (λ n. IfSome (structured e) (ReadBack n))
  answers_read_back = answered e _ (λ n is. if_some (structured e) (ReadBack n) (λ m some p. form_read_back e n is m some (is_stored m some p) p)) r made
