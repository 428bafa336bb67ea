-- The text of items is read back, frame by frame, as their normal form and nothing else.
use Rattle.std.proofs.Common.{◌≡◌, ◌<◌, ◌^◌, ℕ, List, [], ◌∷◌, Some, refl, sym, ap, ap₂, ◌∙◌, subst, inl}
use Rattle.std.specs.Bool.{IsTrue}
use Rattle.std.proofs.lemmas.List.Elements.{All-nil}
use Rattle.std.proofs.lemmas.Option.{same_Some}
use Rattle.sentry_tables.specs.Cell.{Cell}
use Rattle.sentry_framing.specs.Framing.{is_space, Frame, Reading, IsFirstFrame}
use Rattle.sentry_framing.specs.ItemHeader.{Header, read_header}
use Rattle.sentry_envelope.specs.Profile.{ItemType, words, Profile, ProfileLaws}
use Rattle.sentry_envelope.specs.Envelope.{Content, Item, item, raw, reads, ContentShows, ContentShowsAt, ItemShows, ItemsStand, payload_by, header_by, frame_by, frame_at, frame_text, items_text, content_norm_at, items_norm, stored_content, plain_content, readable_content, ContentMeets, ContentMeetsAt, ItemsMeet, stated_by, stated_at, ItemsAreSized}
use Rattle.sentry_framing.specs.declared.error.EnvelopeError.TheVariants.{UnexpectedEof}
use Rattle.sentry_framing.proofs.StatedLengths.{states}
use Rattle.sentry_framing.proofs.Outcomes.{frame, fault, same_outcome}
use Rattle.sentry_framing.proofs.Verdicts.{same_first}
use Rattle.sentry_framing.proofs.Written.{item_read}
use Rattle.sentry_envelope.proofs.EnvelopeTypes.{IsAt, IsTypeLawful, type_met, shows_at, meets_at, frame_is, norm_is, stated_is, lawful_at, place_is}
use Rattle.sentry_envelope.proofs.EnvelopeWrittenHeaders.{header_said, kind_said}
use Rattle.sentry_envelope.proofs.EnvelopeContents.{header_is_read, size_said, content_back, content_only}

-- no frame stands in no bytes
pub none_of_nothing : (reading : Reading) (f : Frame) (rest : List ℕ) → IsFirstFrame reading [] f rest → ⊥
none_of_nothing reading f rest h =
    let e : fault UnexpectedEof ≡ frame f rest = same_outcome reading [] (fault UnexpectedEof) (frame f rest) (inl (All-nil (λ b. IsTrue (is_space b)))) h in
    cc

-- This frame is written for the item of this place and content, and shows its normal form and nothing else.
pub record IsItemBack (P : Profile) (n : ℕ) (c : Content) (now : Cell) : Type 0 where
  pub frame : Frame
  pub is : frame_at P.types n c ≡ Some frame
  pub first : (next : List ℕ) → IsFirstFrame (reads P) (frame_text (Some frame) next) frame next
  pub shows : ItemShows P now frame (item n (content_norm_at P.types n c))
  pub only : (x : Item) → ItemShows P now frame x → x ≡ item n (content_norm_at P.types n c)

module _ (P : Profile) (laws : ProfileLaws P) (now : Cell) where
  -- the frame that a header and a payload make shows items by what the header says alone
  shown_only : (f : Frame) (h : Header) (n : ℕ) (m : Content) → read_header (words P.types) f.header ≡ Some h → h.kind ≡ n
      → ((x : Content) → ContentShowsAt P.types n now h f.payload x → x ≡ m) → (x : Item) → ItemShows P now f x → x ≡ item n m
  shown_only f h n m read kind only (item k x) (g, found, place, shows) =
      let same : g ≡ h = same_Some g h (sym found ∙ read) in
      let there : k ≡ n = sym place ∙ ap (λ (u : Header). u.kind) same ∙ kind in
      ap₂ item there (only x (subst (λ j. ContentShowsAt P.types j now h f.payload x) there (subst (λ u. ContentShowsAt P.types k now u f.payload x) same shows)))
  shown_only f h n m read kind only raw shows = absurd shows

  -- at the type of this place
  typed_back : (n : ℕ) (c : Content) (t : ItemType) → IsAt P.types n t → IsTypeLawful P.header P.fill t → ContentMeets stored_content t.form c → ContentMeets plain_content t.form c → ContentMeets readable_content t.form c
      → stated_by t.form c < 2 ^ 64 → IsItemBack P n c now
  typed_back n c t at own s p r sized =
      let said : Header = header_said n t.form c in
      let read = header_is_read (words P.types) t.word n (place_is at P.header P.fill laws.types) own.word t.form c own.form s sized in
      let norm = norm_is at c in
      record {
        frame = frame_by t c;
        is = frame_is at c;
        first = λ next. item_read (reads P) (header_by t.word t.form c) said.length (payload_by t.form c) next (states (words P.types) (frame_by t c).header said read) (size_said t.form c n s);
        shows = (
          said,
          read,
          kind_said n t.form c,
          subst (λ X. X) (sym (shows_at at now said (payload_by t.form c) (content_norm_at P.types n c)))
              (subst (ContentShows t.form now said (payload_by t.form c)) (sym norm) (content_back t.form c n now own.form s p r)),
        );
        only = shown_only (frame_by t c) said n (content_norm_at P.types n c) read (kind_said n t.form c)
            (λ x h. content_only t.form c n now own.form s p r x (subst (λ X. X) (shows_at at now said (payload_by t.form c) x) h) ∙ sym norm);
      }

  pub item_back : (n : ℕ) (c : Content) → ContentMeetsAt stored_content P.types n c → ContentMeetsAt plain_content P.types n c → ContentMeetsAt readable_content P.types n c
      → stated_at P.types n c < 2 ^ 64 → IsItemBack P n c now
  item_back n c s p r sized =
      let (t, at) = type_met stored_content P.types n c s in
      typed_back n c t at (lawful_at at P.header P.fill laws.types) (subst (λ X. X) (meets_at at stored_content c) s) (subst (λ X. X) (meets_at at plain_content c) p) (subst (λ X. X) (meets_at at readable_content c) r)
      (subst (λ m. m < 2 ^ 64) (stated_is at c) sized)

  -- the frame stands first in the text of its item
  first_written : (n : ℕ) (c : Content) (next : List ℕ) (own : IsItemBack P n c now) → IsFirstFrame (reads P) (frame_text (frame_at P.types n c) next) own.frame next
  first_written n c next own = subst (λ o. IsFirstFrame (reads P) (frame_text o next) own.frame next) (sym own.is) (own.first next)

  pub items_back : (items : List Item) → ItemsMeet stored_content P.types items → ItemsMeet plain_content P.types items → ItemsMeet readable_content P.types items → ItemsAreSized P.types items
      → ItemsStand P now (items_text P items) (items_norm P.types items) []
  items_back [] s p r sized = refl
  items_back (item n c ∷ items) s p r sized =
      let own = item_back n c s.0 p.0 r.0 sized.0 in
      (own.frame, items_text P items, first_written n c (items_text P items) own, own.shows, items_back items s.1 p.1 r.1 sized.1)
  items_back (raw ∷ items) s p r sized = items_back items s p r sized

  pub items_only : (items : List Item) → ItemsMeet stored_content P.types items → ItemsMeet plain_content P.types items → ItemsMeet readable_content P.types items → ItemsAreSized P.types items
      → (xs : List Item) → ItemsStand P now (items_text P items) xs [] → xs ≡ items_norm P.types items
  items_only [] s p r sized [] h = refl
  items_only [] s p r sized (x ∷ xs) (f, next, first, shows, more) = absurd (none_of_nothing (reads P) f next first)
  items_only (item n c ∷ items) s p r sized [] h =
      let own = item_back n c s.0 p.0 r.0 sized.0 in
      absurd (none_of_nothing (reads P) own.frame (items_text P items) (subst (λ body. IsFirstFrame (reads P) body own.frame (items_text P items)) h (first_written n c (items_text P items) own)))
  items_only (item n c ∷ items) s p r sized (x ∷ xs) (f, next, first, shows, more) =
      let own = item_back n c s.0 p.0 r.0 sized.0 in
      let (frames, bodies) = same_first (reads P) (items_text P (item n c ∷ items)) f own.frame next (items_text P items) first (first_written n c (items_text P items) own) in
      ap₂ (λ y ys. y ∷ ys) (own.only x (subst (λ g. ItemShows P now g x) frames shows)) (items_only items s.1 p.1 r.1 sized.1 xs (subst (λ body. ItemsStand P now body xs []) bodies more))
  items_only (raw ∷ items) s p r sized xs h = items_only items s p r sized xs h
