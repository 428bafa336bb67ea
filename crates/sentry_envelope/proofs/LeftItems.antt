-- What is left of items that are written while they are read, and of a whole envelope.
use Rattle.std.proofs.Common.{◌≡◌, ◌≢◌, ℕ, Bool, true, false, not, ◌&&◌, ◌||◌, cond, List, [], ◌∷◌, ◌++◌, map, filter, slice_get, Option, Some, None, refl, sym, ap, ap₂, ◌∙◌, subst, append_assoc, append-nil, arith}
use Rattle.std.proofs.lemmas.List.{map-append}
use Rattle.std.proofs.lemmas.List.Elements.{filter-append}
use Rattle.std.proofs.lemmas.List.Folds.{list_any-append}
use Rattle.std.specs.List.{list_any}
use Rattle.serde_json.specs.Data.{Members}
use Rattle.serde_json.specs.Written.{compact_text}
use Rattle.sentry_json.specs.Line.{newline}
use Rattle.sentry_tables.specs.Cell.{Cell, Cells, absent, octets, fields, no_cells, cell}
use Rattle.sentry_tables.specs.Lawful.{IsMoment}
use Rattle.sentry_tables.specs.Fields.{rows_of}
use Rattle.sentry_tables.specs.Reading.{TextShown}
use Rattle.sentry_tables.specs.Written.{tree}
use Rattle.sentry_framing.specs.Framing.{Frame, IsFault, IsFirstFrame, IsLineAndBody, with_line}
use Rattle.sentry_framing.specs.HeaderView.{header_view}
use Rattle.sentry_framing.specs.ItemHeader.{Header, read_header, stated_length}
use Rattle.sentry_framing.specs.ItemWords.{item_kinds, item_words, kind_place}
use Rattle.sentry_framing.specs.declared.error.EnvelopeError.{EnvelopeError}
use Rattle.sentry_framing.specs.declared.error.EnvelopeError.TheVariants.{InvalidItemPayload}
use Rattle.sentry_framing.specs.declared.header.ItemHeader.{ItemHeader}
use Rattle.sentry_framing.specs.declared.kind.ItemKind.{ItemKind}
use Rattle.sentry_framing.specs.declared.kind.ItemKind.TheVariants as kinds
use Rattle.sentry_framing.proofs.Verdicts.{same_first}
use Rattle.sentry_items.specs.Losses.{losses_of_item, losses_of_items}
use Rattle.sentry_items.specs.Texts.{bytes_of}
use Rattle.sentry_items.specs.declared.item.EnvelopeItem.{EnvelopeItem}
use Rattle.sentry_reports.specs.declared.item_loss.ItemLoss.{ItemLoss}
use Rattle.sentry_moments.specs.Moments.{moment_cell}
use Rattle.sentry_moments.specs.declared.moment.Moment.{Moment}
use Rattle.uuid.specs.declared.Uuid.{Uuid}
use Rattle.sentry_envelope.specs.Envelope.{Envelope, IsEnvelopePlain, IsEnvelopeStored, Item, item, raw, ItemShows, ItemsStand, Spells, envelope_norm, envelope_text, first_id, frame_of_item, frame_text, given_by, items_text, or_else, reads}
use Rattle.sentry_envelope.specs.EnvelopeFault.{BodyIsAtFault, FrameIsRefused}
use Rattle.sentry_envelope.specs.EnvelopeView.{item_view}
use Rattle.sentry_envelope.specs.Filter.{header_left, id_in}
use Rattle.sentry_envelope.specs.FilteredText.{HasMain, IsBodyOf, IsFiltered, IsHeaded, IsLeft, IsLeftText, IsLost, IsTextOfLeft, has_main, is_attachment_kind, is_left, is_main_kind, is_of, is_some_item, is_such, items_left, items_taken}
use Rattle.sentry_envelope.specs.HeaderFields.{fill_id, given_id, header_fields, header_in_order, header_kind, headers_cell, id_cell, put_id}
use Rattle.sentry_envelope.specs.NormalText.{IsItemWritten}
use Rattle.sentry_envelope.specs.SentryProfile.{item_types, profile}
use Rattle.sentry_envelope.specs.declared.filtered.Left.{Left}
use Rattle.sentry_envelope.specs.declared.headers.EnvelopeHeaders.{EnvelopeHeaders}
use Rattle.sentry_envelope.proofs.EnvelopeAnswers.{no_frame_at_fault, some_remain}
use Rattle.sentry_envelope.proofs.EnvelopeReading.{items_snoc, body_fault, framing_is_first, payload_is_first}
use Rattle.sentry_envelope.proofs.EnvelopeFill.{IsWrittenAsNormal, clear_place, header_cleared}
use Rattle.sentry_envelope.proofs.EnvelopeForms.{IsEachRewritten, are_rewritten, chosen_rewritten, each_rewritten, filled_rewritten}
use Rattle.sentry_envelope.proofs.HeaderValues.{header_laws, no_fields_rewritten}
use Rattle.sentry_envelope.proofs.Rewriting.{first_of_more, items_more}
use Rattle.sentry_envelope.proofs.SentryProfile.{profile_lawful}

-- ---- types of items

kind_in_place : (k : ItemKind) → slice_get item_kinds (kind_place k) ≡ Some k
kind_in_place kinds.Event = refl
kind_in_place _ = refl

same_header : (o : Option Header) (h g : Header) → o ≡ Some h → o ≡ Some g → h ≡ g
same_header o h g e f = cc

-- an item that a frame shows is of the type that the frame's header names
type_shown : (is : ItemKind → Bool) (now : Cell) (frame : Frame) (h : ItemHeader) → read_header item_words frame.header ≡ Some (header_view h) → (i : Item) → ItemShows profile now frame i → is_of is i ≡ is h.kind
unfolding profile
type_shown is now frame h read raw shows = absurd shows
type_shown is now frame h read (item n c) (g, again, place, shows) =
    let same : g ≡ header_view h = same_header (read_header item_words frame.header) g (header_view h) again read in
    let at : n ≡ kind_place h.kind = sym place ∙ ap (λ (x : Header). x.kind) same in
    ap (λ m. is_such is (slice_get item_kinds m)) at ∙ ap (is_such is) (kind_in_place h.kind)

-- ---- one item more

keeps : (b : Bool) (i : Item) → b ≡ true → cond b (i ∷ []) [] ≡ i ∷ []
keeps true i is = refl
keeps false i is = cc

drops : (b : Bool) (i : Item) → b ≡ false → cond b (i ∷ []) [] ≡ []
drops true i is = cc
drops false i is = refl

flip : (b : Bool) → b ≡ false → not b ≡ true
flip b is = ap not is

unflip : (b : Bool) → b ≡ true → not b ≡ false
unflip b is = ap not is

or_true : (b : Bool) → (b || true) ≡ true
or_true true = refl
or_true false = refl

or_false : (b : Bool) → (b || false) ≡ b
or_false true = refl
or_false false = refl

losses_more : (taken : List EnvelopeItem) (i : EnvelopeItem) → losses_of_items (taken ++ i ∷ []) ≡ losses_of_items taken ++ losses_of_item i
losses_more [] i = append-nil (losses_of_item i)
losses_more (j ∷ taken) i = ap (λ l. losses_of_item j ++ l) (losses_more taken i) ∙ sym (append_assoc (losses_of_item j) (losses_of_items taken) (losses_of_item i))

module _ (p : Item → Bool) (items : List Item) (i : Item) where
  pub one_left : p i ≡ true → filter p (items ++ i ∷ []) ≡ filter p items ++ i ∷ []
  one_left is = filter-append p items (i ∷ []) ∙ ap (λ l. filter p items ++ l) (keeps (p i) i is)

  pub none_left : p i ≡ false → filter p (items ++ i ∷ []) ≡ filter p items
  none_left is = filter-append p items (i ∷ []) ∙ ap (λ l. filter p items ++ l) (drops (p i) i is) ∙ append-nil (filter p items)

any_more : (p : Item → Bool) (items : List Item) (i : Item) → list_any p (items ++ i ∷ []) ≡ (list_any p items || p i)
any_more p items i = list_any-append p items (i ∷ []) ∙ ap (λ b. list_any p items || b) (or_false (p i))

-- what was written and listed of the items so far, and what is among those that are left
pub record SoFar : Type 0 where
  pub text : List ℕ
  pub id : Cell
  pub losses : List ItemLoss
  pub any : Bool
  pub main : Bool
  pub attached : Bool

-- the same of items that stand first in a body; with `main`, attachments are left as others are
pub record IsLeftSoFar (stays : ItemKind → Bool) (main : Bool) (now : Cell) (body rest : List ℕ) (left : SoFar) : Type 0 where
  pub items : List Item
  pub taken : List EnvelopeItem
  pub stand : ItemsStand profile now body items rest
  pub text_is : left.text ≡ items_text profile (filter (is_left stays main) items)
  pub id_is : left.id ≡ first_id item_types (filter (is_left stays main) items)
  pub taken_are : map item_view taken ≡ filter (λ i. not (is_left stays main i)) items
  pub losses_are : left.losses ≡ losses_of_items taken
  pub any : left.any ≡ list_any is_some_item (filter (is_left stays main) items)
  pub main_is : left.main ≡ list_any (is_of is_main_kind) (filter (is_left stays main) items)
  pub attached : left.attached ≡ list_any (is_of is_attachment_kind) (filter (is_left stays main) items)

module _ (stays : ItemKind → Bool) (main : Bool) (now : Cell) (body : List ℕ) where
  abbrev Left_by : Item → Bool
  Left_by = is_left stays main

  abbrev Taken_by : Item → Bool
  Taken_by i = not (is_left stays main i)

  pub none_read : (text : List ℕ) (losses : List ItemLoss) → text ≡ [] → losses ≡ [] → IsLeftSoFar stays main now body body (record { text = text; id = absent; losses = losses; any = false; main = false; attached = false })
  none_read text losses text_is losses_are = record {
    items = [];
    taken = [];
    stand = refl;
    text_is = text_is;
    id_is = refl;
    taken_are = refl;
    losses_are = losses_are;
    any = refl;
    main_is = refl;
    attached = refl;
  }

  module _ (rest : List ℕ) (left : SoFar) (so_far : IsLeftSoFar stays main now body rest left) where
    pub frame_fault : (x : EnvelopeError) → rest ≢ [] → IsFault (stated_length item_words) rest x → BodyIsAtFault profile body x
    unfolding profile
    frame_fault x remains fault = body_fault profile profile_lawful now body so_far.items rest x so_far.stand remains (framing_is_first profile rest x fault)

    module _ (frame : Frame) (next : List ℕ) where
      pub payload_fault : rest ≢ [] → IsFirstFrame (stated_length item_words) rest frame next → FrameIsRefused profile frame → BodyIsAtFault profile body InvalidItemPayload
      unfolding profile
      payload_fault remains first refused = body_fault profile profile_lawful now body so_far.items rest InvalidItemPayload so_far.stand remains (payload_is_first profile rest frame next first refused)

      module _ (first : IsFirstFrame (stated_length item_words) rest frame next) (h : ItemHeader) (read : read_header item_words frame.header ≡ Some (header_view h)) where
        -- the header's type tells whether the item is left
        told : (i : Item) → ItemShows profile now frame i → is_left stays main i ≡ ((main || not (is_attachment_kind h.kind)) && stays h.kind)
        told i shows = ap₂ (λ a b. (main || not a) && b) (type_shown is_attachment_kind now frame h read i shows) (type_shown stays now frame h read i shows)

        pub item_left : ((main || not (is_attachment_kind h.kind)) && stays h.kind) ≡ true → (before after : Option Uuid) → left.id ≡ given_id before → (newer : SoFar) → IsItemWritten now frame before after left.text newer.text → newer.id ≡ given_id after
            → newer.losses ≡ left.losses → newer.any ≡ true → newer.main ≡ (left.main || is_main_kind h.kind) → newer.attached ≡ (left.attached || is_attachment_kind h.kind) → IsLeftSoFar stays main now body next newer
        unfolding profile IsItemWritten
        item_left stay before after id newer (i, shows, sent, filled) newer_id losses any mains attached =
            let yes : is_left stays main i ≡ true = told i shows ∙ stay in
            let more = one_left Left_by so_far.items i yes in
            record {
              items = so_far.items ++ i ∷ [];
              taken = so_far.taken;
              stand = items_snoc profile now so_far.items body rest next frame i so_far.stand first shows;
              text_is =
                  sent ∙ ap (λ s. s ++ frame_text (frame_of_item profile i) []) so_far.text_is ∙ sym (items_more profile (filter Left_by so_far.items) i)
                  ∙ ap (items_text profile) (sym more);
              id_is = newer_id ∙ filled ∙ ap (λ c. or_else c (given_by item_types i)) (sym id ∙ so_far.id_is) ∙ sym (first_of_more item_types (filter Left_by so_far.items) i) ∙ ap (first_id item_types) (sym more);
              taken_are = so_far.taken_are ∙ sym (none_left Taken_by so_far.items i (unflip (is_left stays main i) yes));
              losses_are = losses ∙ so_far.losses_are;
              any = any ∙ sym (or_true (list_any is_some_item (filter Left_by so_far.items))) ∙ sym (any_more is_some_item (filter Left_by so_far.items) i) ∙ ap (list_any is_some_item) (sym more);
              main_is =
                  mains ∙ ap₂ (λ a b. a || b) so_far.main_is (sym (type_shown is_main_kind now frame h read i shows)) ∙ sym (any_more (is_of is_main_kind) (filter Left_by so_far.items) i)
                  ∙ ap (list_any (is_of is_main_kind)) (sym more);
              attached =
                  attached ∙ ap₂ (λ a b. a || b) so_far.attached (sym (type_shown is_attachment_kind now frame h read i shows)) ∙ sym (any_more (is_of is_attachment_kind) (filter Left_by so_far.items) i)
                  ∙ ap (list_any (is_of is_attachment_kind)) (sym more);
            }

        pub item_taken : ((main || not (is_attachment_kind h.kind)) && stays h.kind) ≡ false → (losses : List ItemLoss) → IsLost now frame left.losses losses
            → IsLeftSoFar stays main now body next (record { text = left.text; id = left.id; losses = losses; any = left.any; main = left.main; attached = left.attached })
        unfolding profile IsLost
        item_taken goes losses (i, shows, lost) =
            let no : is_left stays main (item_view i) ≡ false = told (item_view i) shows ∙ goes in
            let same = none_left Left_by so_far.items (item_view i) no in
            record {
              items = so_far.items ++ item_view i ∷ [];
              taken = so_far.taken ++ i ∷ [];
              stand = items_snoc profile now so_far.items body rest next frame (item_view i) so_far.stand first shows;
              text_is = so_far.text_is ∙ ap (items_text profile) (sym same);
              id_is = so_far.id_is ∙ ap (first_id item_types) (sym same);
              taken_are =
                  map-append item_view so_far.taken (i ∷ []) ∙ ap (λ l. l ++ item_view i ∷ []) so_far.taken_are
                  ∙ sym (one_left Taken_by so_far.items (item_view i) (flip (is_left stays main (item_view i)) no));
              losses_are = lost ∙ ap (λ l. l ++ losses_of_item i) so_far.losses_are ∙ sym (losses_more so_far.taken i);
              any = so_far.any ∙ ap (list_any is_some_item) (sym same);
              main_is = so_far.main_is ∙ ap (list_any (is_of is_main_kind)) (sym same);
              attached = so_far.attached ∙ ap (list_any (is_of is_attachment_kind)) (sym same);
            }

-- ---- whether an event or a transaction is left

or_none : (a b : Bool) → (a || b) ≡ false → (a ≡ false) × (b ≡ false)
or_none true b none = cc
or_none false b none = (refl, none)

module _ (p : Item → Bool) (i : Item) (items : List Item) where
  none_among : (wanted : Bool) → list_any p (cond wanted (i ∷ items) items) ≡ false → (wanted ≡ true → p i ≡ false) × (list_any p items ≡ false)
  none_among true none = let both = or_none (p i) (list_any p items) none in ((λ is. both.0), both.1)
  none_among false none = ((λ is. cc), none)

module _ (i : Item) (us vs : List Item) (same : us ≡ vs) where
  left_alike : (wanted attached : Bool) → (wanted ≡ true → attached ≡ false) → cond wanted (i ∷ us) us ≡ cond (not attached && wanted) (i ∷ vs) vs
  left_alike true true none = let no : true ≡ false = none refl in cc
  left_alike true false none = ap (λ l. i ∷ l) same
  left_alike false true none = same
  left_alike false false none = same

  taken_alike : (wanted attached : Bool) → (wanted ≡ true → attached ≡ false) → cond (not wanted) (i ∷ us) us ≡ cond (not (not attached && wanted)) (i ∷ vs) vs
  taken_alike true true none = let no : true ≡ false = none refl in cc
  taken_alike true false none = same
  taken_alike false true none = ap (λ l. i ∷ l) same
  taken_alike false false none = ap (λ l. i ∷ l) same

pub or_right : (a b : Bool) → b ≡ true → (a || b) ≡ true
or_right true b is = refl
or_right false b is = is

not_so : (b : Bool) → (b ≡ true → false ≡ true) → b ≡ false
not_so false h = refl
not_so true h = let no : false ≡ true = h refl in cc

module _ (stays : ItemKind → Bool) where
  -- without attachments among those whose types stay, items are left alike
  none_attached : (items : List Item) → list_any (is_of is_attachment_kind) (filter (is_left stays true) items) ≡ false
      → (filter (is_left stays true) items ≡ filter (is_left stays false) items) × (filter (λ i. not (is_left stays true i)) items ≡ filter (λ i. not (is_left stays false i)) items)
  none_attached [] none = (refl, refl)
  none_attached (i ∷ items) none =
      let (first, others) = none_among (is_of is_attachment_kind) i (filter (is_left stays true) items) (is_of stays i) none in
      let (left, taken) = none_attached items others in
      (left_alike i _ _ left (is_of stays i) (is_of is_attachment_kind i) first, taken_alike i _ _ taken (is_of stays i) (is_of is_attachment_kind i) first)

  unattached : (now : Cell) (body rest : List ℕ) (left : SoFar) → IsLeftSoFar stays true now body rest left → left.attached ≡ false → IsLeftSoFar stays false now body rest left
  unattached now body rest left read none =
      let (same, taken) = none_attached read.items (sym read.attached ∙ none) in
      record {
        items = read.items;
        taken = read.taken;
        stand = read.stand;
        text_is = read.text_is ∙ ap (items_text profile) same;
        id_is = read.id_is ∙ ap (first_id item_types) same;
        taken_are = read.taken_are ∙ taken;
        losses_are = read.losses_are;
        any = read.any ∙ ap (list_any is_some_item) same;
        main_is = read.main_is ∙ ap (list_any (is_of is_main_kind)) same;
        attached = read.attached ∙ ap (list_any (is_of is_attachment_kind)) same;
      }

  -- while no attachment is left, whether they are may turn
  pub turned : (main : Bool) (now : Cell) (body rest : List ℕ) (left : SoFar) → IsLeftSoFar stays main now body rest left → (next : Bool) → (left.attached ≡ true → next ≡ main) → (next ≡ true → main ≡ true) → IsLeftSoFar stays next now body rest left
  turned true now body rest left read true same falls = read
  turned false now body rest left read false same falls = read
  turned false now body rest left read true same falls = let no : false ≡ true = falls refl in cc
  turned true now body rest left read false same falls = unattached now body rest left read (not_so left.attached same)

  left_by : (items : List Item) (main : Bool) → main ≡ has_main stays items → (filter (is_left stays main) items ≡ items_left stays items) × (filter (λ i. not (is_left stays main i)) items ≡ items_taken stays items)
  left_by items main has = (ap (λ b. filter (is_left stays b) items) has, ap (λ b. filter (λ i. not (is_left stays b i)) items) has)

  -- of what was left so far: where attachments are, an event or a transaction is or will be, and
  -- where they aren't, none is
  pub record IsSettled (bytes : List ℕ) (beside : Bool) (left : SoFar) : Type 0 where
    pub beside_others : beside ≡ true → left.attached ≡ true → left.main ≡ false → HasMain stays bytes true
    pub alone : beside ≡ false → HasMain stays bytes false

  pub nothing_asked : (bytes : List ℕ) (left : SoFar) → left.attached ≡ false → IsSettled bytes true left
  nothing_asked bytes left none = record {
    beside_others = λ b attached. let no : true ≡ false = sym attached ∙ none in cc;
    alone = λ none. cc;
  }

  module _ (bytes : List ℕ) (beside next : Bool) (left : SoFar) (settled : IsSettled bytes beside left) (falls : next ≡ true → beside ≡ true) (fell : next ≡ false → beside ≡ true → HasMain stays bytes false) where
    fell_or_was : (was : Bool) → beside ≡ was → next ≡ false → HasMain stays bytes false
    fell_or_was true is none = fell none is
    fell_or_was false is none = settled.alone is

    pub still_settled : (newer : SoFar) → newer.main ≡ left.main → newer.attached ≡ left.attached → IsSettled bytes next newer
    still_settled newer mains attached = record {
      beside_others = λ is any none. settled.beside_others (falls is) (sym attached ∙ any) (sym mains ∙ none);
      alone = fell_or_was beside refl;
    }

    module _ (k : ItemKind) (stay : stays k ≡ true) (asked : next ≡ true → (left.main || left.attached) ≡ false → is_attachment_kind k ≡ true → stays k ≡ true → HasMain stays bytes true) where
      asked_or_was : (had : Bool) → left.attached ≡ had → next ≡ true → (left.attached || is_attachment_kind k) ≡ true → left.main ≡ false → HasMain stays bytes true
      asked_or_was true is here any none = settled.beside_others (falls here) is none
      asked_or_was false is here any none = asked here (ap₂ (λ a b. a || b) none is) (sym (ap (λ b. b || is_attachment_kind k) is) ∙ any) stay

      pub more_settled : (newer : SoFar) → newer.main ≡ (left.main || is_main_kind k) → newer.attached ≡ (left.attached || is_attachment_kind k) → IsSettled bytes next newer
      more_settled newer mains attached = record {
        beside_others = λ is any none. asked_or_was left.attached refl is (sym attached ∙ any) (or_none left.main (is_main_kind k) (sym mains ∙ none)).0;
        alone = fell_or_was beside refl;
      }

  -- what was left is what is
  left_is : (bytes body : List ℕ) (now : Cell) (beside : Bool) (left : SoFar) (items : List Item) → IsBodyOf bytes body → ItemsStand profile now body items [] → IsSettled bytes beside left
      → left.main ≡ list_any (is_of is_main_kind) (filter (is_left stays beside) items) → left.attached ≡ list_any (is_of is_attachment_kind) (filter (is_left stays beside) items)
      → (filter (is_left stays beside) items ≡ items_left stays items) × (filter (λ i. not (is_left stays beside i)) items ≡ items_taken stays items)
  left_is bytes body now false left items here stand settled main attached = left_by items false (sym (settled.alone refl body here now items stand))
  left_is bytes body now true left items here stand settled main attached = by_found left.main left.attached refl refl
    where
      by_found : (mains attaches : Bool) → left.main ≡ mains → left.attached ≡ attaches → (filter (is_left stays true) items ≡ items_left stays items) × (filter (λ i. not (is_left stays true i)) items ≡ items_taken stays items)
      by_found true attaches found any = left_by items true (sym found ∙ main)
      by_found false true found any = left_by items true (sym (settled.beside_others refl any found body here now items stand))
      by_found false false found any =
          let (left, taken) = none_attached items (sym attached ∙ any) in
          let (rest, others) = left_by items false (sym found ∙ main) in
          (left ∙ rest, taken ∙ others)

  pub all_left : (bytes body : List ℕ) (now : Cell) (beside : Bool) (so_far : SoFar) → IsBodyOf bytes body → IsLeftSoFar stays beside now body [] so_far → IsSettled bytes beside so_far
      → (left : Left) → bytes_of left.text ≡ so_far.text → given_id left.id ≡ so_far.id → left.losses.items ≡ so_far.losses → left.any ≡ so_far.any → IsLeft stays now body left
  all_left bytes body now beside so_far here read settled left text id losses any =
      let (are, taken) = left_is bytes body now beside so_far read.items here read.stand settled read.main_is read.attached in
      record {
        items = read.items;
        taken = read.taken;
        stand = read.stand;
        text_is = text ∙ read.text_is ∙ ap (items_text profile) are;
        id_is = id ∙ read.id_is ∙ ap (first_id item_types) are;
        taken_are = read.taken_are ∙ taken;
        losses_are = losses ∙ read.losses_are;
        any = any ∙ read.any ∙ ap (list_any is_some_item) are;
      }

-- ---- a look ahead

module _ (stays : ItemKind → Bool) where
  -- of items that stand in a body, those that stand in this rest of it decide
  abbrev pub IsDecidedBy : List ℕ → List ℕ → Type 0
  IsDecidedBy body rest = (now : Cell) (items : List Item) → ItemsStand profile now body items [] → (last : List Item) × ItemsStand profile now rest last [] × (has_main stays items ≡ has_main stays last)

  pub all_decide : (body : List ℕ) → IsDecidedBy body body
  all_decide body now items stand = (items, stand, refl)

  module _ (rest : List ℕ) (frame : Frame) (next : List ℕ) (first : IsFirstFrame (stated_length item_words) rest frame next) (h : ItemHeader) (read : read_header item_words frame.header ≡ Some (header_view h)) where
    -- the first of the items that stand is of the header's type
    first_one : (now : Cell) (items : List Item) → ItemsStand profile now rest items []
        → (i : Item) × (more : List Item) × (items ≡ i ∷ more) × (is_of is_main_kind i ≡ is_main_kind h.kind) × (is_of stays i ≡ stays h.kind) × ItemsStand profile now next more []
    unfolding profile
    first_one now [] stand = absurd (some_remain profile rest frame next first stand)
    first_one now (i ∷ more) (other, later, second, shows, others) =
        let (frames, bodies) = same_first (reads profile) rest other frame later next second first in
        let here : ItemShows profile now frame i = subst (λ f. ItemShows profile now f i) frames shows in
        (i, more, refl, type_shown is_main_kind now frame h read i here, type_shown stays now frame h read i here, subst (λ b. ItemsStand profile now b more []) bodies others)

    found_one : (i : Item) (more : List Item) → is_of is_main_kind i ≡ true → is_of stays i ≡ true → has_main stays (i ∷ more) ≡ true
    found_one i more main stay = ap (λ b. list_any (is_of is_main_kind) (cond b (i ∷ filter (is_of stays) more) (filter (is_of stays) more))) stay ∙ ap (λ b. b || has_main stays more) main

    pub main_found : is_main_kind h.kind ≡ true → stays h.kind ≡ true → (now : Cell) (items : List Item) → ItemsStand profile now rest items [] → has_main stays items ≡ true
    main_found main stay now items stand =
        let (i, more, are, is_main, is_staying, others) = first_one now items stand in
        ap (has_main stays) are ∙ found_one i more (is_main ∙ main) (is_staying ∙ stay)

    passed_one : (i : Item) (more : List Item) (main stay : Bool) → is_of is_main_kind i ≡ main → is_of stays i ≡ stay → (main && stay) ≡ false → has_main stays (i ∷ more) ≡ has_main stays more
    passed_one i more main false is_main is_staying none = ap (λ b. list_any (is_of is_main_kind) (cond b (i ∷ filter (is_of stays) more) (filter (is_of stays) more))) is_staying
    passed_one i more false true is_main is_staying none =
        ap (λ b. list_any (is_of is_main_kind) (cond b (i ∷ filter (is_of stays) more) (filter (is_of stays) more))) is_staying ∙ ap (λ b. b || has_main stays more) is_main
    passed_one i more true true is_main is_staying none = cc

    pub one_passed : (body : List ℕ) → IsDecidedBy body rest → (is_main_kind h.kind && stays h.kind) ≡ false → IsDecidedBy body next
    one_passed body so_far none now items stand =
        let (last, stands, same) = so_far now items stand in
        let (i, more, are, is_main, is_staying, others) = first_one now last stands in
        (more, others, same ∙ ap (has_main stays) are ∙ passed_one i more (is_main_kind h.kind) (stays h.kind) is_main is_staying none)

  pub decided_by : (has : Bool) (body rest : List ℕ) → IsDecidedBy body rest → ((now : Cell) (items : List Item) → ItemsStand profile now rest items [] → has_main stays items ≡ has) → (now : Cell) (items : List Item) → ItemsStand profile now body items [] → has_main stays items ≡ has
  decided_by has body rest so_far told now items stand = let (last, stands, same) = so_far now items stand in same ∙ told now last stands

  -- at the end of the body none is left to decide, and where something is at fault, no items stand
  pub none_at_end : (rest : List ℕ) → rest ≡ [] → (now : Cell) (items : List Item) → ItemsStand profile now rest items [] → has_main stays items ≡ false
  none_at_end rest end now [] stand = refl
  none_at_end rest end now (i ∷ more) (frame, next, first, shows, others) = absurd (some_remain profile rest frame next first end)

  pub none_at_fault : (rest : List ℕ) (x : EnvelopeError) → rest ≢ [] → IsFault (stated_length item_words) rest x → (now : Cell) (items : List Item) → ItemsStand profile now rest items [] → has_main stays items ≡ false
  unfolding profile
  none_at_fault rest x remains fault now [] stand = absurd (remains stand)
  none_at_fault rest x remains fault now (i ∷ more) (frame, next, first, shows, others) = absurd (no_frame_at_fault profile rest x frame next fault first)

-- ---- an envelope

id_back : (id : Option Uuid) → id_in (given_id id) ≡ id
id_back None = refl
id_back (Some u) = refl

-- an id that is put in the place of another hides what was there
put_filled : (u : Option Uuid) (c d : Cell) (id : Option Uuid) (cs : Cells) (other : Members) → put_id u (fill_id c (fields (cell d (cell (id_cell id) cs)) other)) ≡ put_id u (fields (cell d (cell (id_cell id) cs)) other)
put_filled u (octets b) d None cs other = refl
put_filled u (octets b) d (Some v) cs other = refl
put_filled u _ d id cs other = refl

put_over : (u : Option Uuid) (c : Cell) (h : EnvelopeHeaders) → put_id u (fill_id c (headers_cell h)) ≡ put_id u (headers_cell h)
unfolding header_fields
put_over u c h = put_filled u c _ h.event_id _ _

put_left : (keep_headers : Bool) (u : Option Uuid) (c : Cell) (h : EnvelopeHeaders) → put_id u (header_left keep_headers (fill_id c (headers_cell h))) ≡ put_id u (header_left keep_headers (headers_cell h))
put_left true u c h = put_over u c h
put_left false u c h = refl

-- an id that is put fills a header without one
put_fills : (u : Option Uuid) (h : Cell) → put_id u h ≡ fill_id (given_id u) (clear_place 1 h)
put_fills None (fields (cell d (cell c cs)) other) = refl
put_fills (Some v) (fields (cell d (cell c cs)) other) = refl
put_fills None (fields (cell d no_cells) other) = refl
put_fills (Some v) (fields (cell d no_cells) other) = refl
put_fills None (fields no_cells other) = refl
put_fills (Some v) (fields no_cells other) = refl
put_fills None _ = refl
put_fills (Some v) _ = refl

nothing : (items : List Item) → list_any is_some_item items ≡ false → items ≡ []
nothing [] none = refl
nothing (i ∷ items) none = cc

module _ (stays : ItemKind → Bool) (keep_headers : Bool) (bytes line body : List ℕ) (parts : IsLineAndBody bytes line body) (now : Moment) (h : EnvelopeHeaders) (shown : TextShown header_kind line (headers_cell h)) where
  module _ (left : Left) (read : IsLeft stays (moment_cell now) body left) where
    abbrev all : Envelope
    all = record { header = fill_id (first_id item_types read.items) (headers_cell h); items = read.items }

    abbrev below : Cell
    below = header_left keep_headers (headers_cell h)

    abbrev put : Cell
    put = put_id left.id below

    moment : IsMoment (moment_cell now)
    moment = (omega (arith, now.secs_in_range), now.nanos_in_range)

    spelled : Spells profile bytes (moment_cell now) all
    unfolding profile TextShown
    spelled = record { line = line; body = body; shown = headers_cell h; parts = parts; line_shows = shown (moment_cell now); header = refl; items = read.stand }

    id_is : left.id ≡ id_in (first_id item_types (items_left stays read.items))
    id_is = sym (id_back left.id) ∙ ap id_in read.id_is

    filtered_as : (items : List Item) → items_left stays read.items ≡ items → IsFiltered stays keep_headers bytes (moment_cell now) put items left.losses.items
    filtered_as items are = record {
      whole = all;
      spells = spelled;
      left_is = sym are;
      header_is =
          sym (put_left keep_headers left.id (first_id item_types read.items) h)
          ∙ ap (λ u. put_id u (header_left keep_headers all.header)) (id_is ∙ ap (λ l. id_in (first_id item_types l)) are);
      taken = read.taken;
      taken_are = read.taken_are;
      losses_are = read.losses_are;
    }

    -- the header is written as its normal form is, whether its fields stay or not, and also without
    -- its id
    header_rewritten : (keeps : Bool) → IsWrittenAsNormal header_kind (header_left keeps (headers_cell h))
    unfolding TextShown
    header_rewritten true = header_laws.text_rewritten line (headers_cell h) (moment_cell now) moment (shown (moment_cell now))
    header_rewritten false = no_fields_rewritten

    cleared : IsWrittenAsNormal header_kind (clear_place 1 below)
    unfolding header_fields
    cleared = header_cleared (rows_of header_fields) header_in_order 1 tt below (header_rewritten keep_headers)

    abbrev left_as : List Item → Envelope
    left_as items = record { header = put; items = items }

    -- what is left is plain, and is written as its normal form is
    rewritten : (items : List Item) → items_left stays read.items ≡ items → IsEnvelopeStored profile (left_as items) × IsEnvelopePlain profile (left_as items) × (envelope_text profile (left_as items) ≡ envelope_text profile (envelope_norm profile (left_as items)))
    unfolding profile
    rewritten items are =
        let each = chosen_rewritten profile (is_left stays (has_main stays read.items)) read.items (each_rewritten profile profile_lawful (moment_cell now) moment read.items body read.stand) in
        filled_rewritten profile profile_lawful (left_as items) (clear_place 1 below) (put_fills left.id below ∙ ap (λ c. fill_id c (clear_place 1 below)) (read.id_is ∙ ap (first_id item_types) are)) cleared (are_rewritten profile items (subst (IsEachRewritten profile) are each))

    text_left : (text : List ℕ) (items : List Item) → items_left stays read.items ≡ items → left.any ≡ true → text ≡ with_line (compact_text (tree header_kind put)) [] ++ bytes_of left.text → IsLeftText stays keep_headers bytes (moment_cell now) text left.losses.items
    unfolding profile envelope_text
    text_left text [] are any is = let none : true ≡ false = sym any ∙ read.any ∙ ap (list_any is_some_item) are in cc
    text_left text (first ∷ rest) are any is =
        let text_is : text ≡ envelope_text profile (left_as (first ∷ rest)) =
        is ∙ ap (λ s. with_line (compact_text (tree header_kind put)) [] ++ s) (read.text_is ∙ ap (items_text profile) are)
        ∙ append_assoc (compact_text (tree header_kind put)) (newline ∷ []) (items_text profile (first ∷ rest)) in
        record {
          header = put;
          first = first;
          rest = rest;
          filtered = filtered_as (first ∷ rest) are;
          text_is = text_is;
          normal = text_is ∙ (rewritten (first ∷ rest) are).2;
        }

    pub filtered : (text : Option (List ℕ)) → IsHeaded put left text → IsTextOfLeft stays keep_headers bytes (moment_cell now) text left.losses.items
    unfolding profile IsEnvelopePlain IsEnvelopeStored
    filtered None none = (put, filtered_as [] (nothing (items_left stays read.items) (sym read.any ∙ none)))
    filtered (Some text) (any, is) =
        let items = items_left stays read.items in
        let own = rewritten items refl in
        text_left text items refl any (is (own.0.0, own.1.0))
