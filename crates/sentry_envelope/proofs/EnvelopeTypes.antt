-- The type at a place of the list of item types: what is said of a place is said of its type.
use Rattle.std.proofs.Common.{◌≡◌, ℕ, zero, suc, List, [], ◌∷◌, Bool, true, false, ◌||◌, if◌then◌else◌, None, Some, option_map, refl, sym, ap, ◌∙◌, IsUtf8, bytes_eq, true≢false}
use Rattle.std.proofs.lemmas.Slice.Eq.{bytes_eq-Decides}
use Rattle.sentry_json.specs.Keys.{is_among}
use Rattle.sentry_tables.specs.Cell.{Cell, absent}
use Rattle.sentry_tables.specs.Kind.{Kind}
use Rattle.sentry_framing.specs.ItemHeader.{place_of, Header}
use Rattle.sentry_envelope.specs.Profile.{ItemType, words, at_place, FormIsLawful, GivesLawful, TypesAreLawful}
use Rattle.sentry_envelope.specs.Envelope.{Content, ContentShows, ContentShowsAt, given_as, given_at, frame_by, frame_at, content_norm, content_norm_at, stated_by, stated_at, ContentDemand, ContentMeets, ContentMeetsAt}

-- this type stands at this place of the list
pub data IsAt : List ItemType → ℕ → ItemType → Type 1 where
  first : {t : ItemType} {ts : List ItemType} → IsAt (t ∷ ts) zero t
  later : {s t : ItemType} {ts : List ItemType} {n : ℕ} → IsAt ts n t → IsAt (s ∷ ts) (suc n) t

-- ---- a type at its place

-- what holds at a place, and at no place without a type, shows that a type stands there
pub type_held : (ts : List ItemType) (n : ℕ) (Has : ItemType → Type 0) → at_place ts n ⊥ Has → (t : ItemType) × IsAt ts n t
type_held [] n Has held = absurd held
type_held (t ∷ ts) zero Has held = (t, first)
type_held (t ∷ ts) (suc n) Has held = let (s, at) = type_held ts n Has held in (s, later at)

-- what is said of a place is said of the type that stands there
pub has_at {ℓ} : {A : Type ℓ} {ts : List ItemType} {n : ℕ} {t : ItemType} → IsAt ts n t → (other : A) (has : ItemType → A) → at_place ts n other has ≡ has t
has_at first other has = refl
has_at (later at) other has = has_at at other has

-- ---- what is said of contents

pub type_met : (G : ContentDemand) (ts : List ItemType) (n : ℕ) (c : Content) → ContentMeetsAt G ts n c → (t : ItemType) × IsAt ts n t
type_met G ts n c = type_held ts n (λ t. ContentMeets G t.form c)

pub shows_at : {ts : List ItemType} {n : ℕ} {t : ItemType} → IsAt ts n t → (now : Cell) (h : Header) (payload : List ℕ) (c : Content) → ContentShowsAt ts n now h payload c ≡ ContentShows t.form now h payload c
shows_at at now h payload c = has_at at ⊥ (λ t. ContentShows t.form now h payload c)

pub meets_at : {ts : List ItemType} {n : ℕ} {t : ItemType} → IsAt ts n t → (G : ContentDemand) (c : Content) → ContentMeetsAt G ts n c ≡ ContentMeets G t.form c
meets_at at G c = has_at at ⊥ (λ t. ContentMeets G t.form c)

pub frame_is : {ts : List ItemType} {n : ℕ} {t : ItemType} → IsAt ts n t → (c : Content) → frame_at ts n c ≡ Some (frame_by t c)
frame_is at c = has_at at None (λ t. Some (frame_by t c))

pub norm_is : {ts : List ItemType} {n : ℕ} {t : ItemType} → IsAt ts n t → (c : Content) → content_norm_at ts n c ≡ content_norm t.form c
norm_is at c = has_at at c (λ t. content_norm t.form c)

pub stated_is : {ts : List ItemType} {n : ℕ} {t : ItemType} → IsAt ts n t → (c : Content) → stated_at ts n c ≡ stated_by t.form c
stated_is at c = has_at at zero (λ t. stated_by t.form c)

pub given_is : {ts : List ItemType} {n : ℕ} {t : ItemType} → IsAt ts n t → (c : Content) → given_at ts n c ≡ given_as t.gives c
given_is at c = has_at at absent (λ t. given_as t.gives c)

-- ---- the types of a lawful list

pub record IsTypeLawful (H : Kind) (fill : Cell → Cell → Cell) (t : ItemType) : Type 0 where
  pub word : IsUtf8 t.word
  pub form : FormIsLawful t.form
  pub gives : GivesLawful H fill t.gives t.form

pub lawful_at : {ts : List ItemType} {n : ℕ} {t : ItemType} → IsAt ts n t → (H : Kind) (fill : Cell → Cell → Cell) → TypesAreLawful H fill ts → IsTypeLawful H fill t
lawful_at first H fill laws = record { word = laws.0; form = laws.2; gives = laws.3 }
lawful_at (later at) H fill laws = lawful_at at H fill laws.4

-- ---- the word of a type stands at its place

pub or_false : (a b : Bool) → a || b ≡ false → (a ≡ false) × (b ≡ false)
or_false true b e = absurd (true≢false e)
or_false false b e = (refl, e)

bytes_apart : (s t : List ℕ) → bytes_eq s t ≡ false → bytes_eq t s ≡ false
bytes_apart s t e = go (bytes_eq t s) refl
  where
    go : (b : Bool) → bytes_eq t s ≡ b → bytes_eq t s ≡ false
    go true same = absurd (true≢false (sym ((bytes_eq-Decides s t).1 (sym ((bytes_eq-Decides t s).0 same))) ∙ e))
    go false apart = apart

-- a word that none of these types has is not the type's
word_apart : {ts : List ItemType} {n : ℕ} {t : ItemType} → IsAt ts n t → (word : List ℕ) → is_among word (words ts) ≡ false → bytes_eq word t.word ≡ false
word_apart (first {t} {ts}) word e = (or_false (bytes_eq word t.word) (is_among word (words ts)) e).0
word_apart (later {s} {t} {ts} at) word e = word_apart at word (or_false (bytes_eq word s.word) (is_among word (words ts)) e).1

found_first : (word : List ℕ) (others : List (List ℕ)) → place_of word (word ∷ others) ≡ Some 0
found_first word others = ap (λ b. if b then Some 0 else option_map suc (place_of word others)) ((bytes_eq-Decides word word).1 refl)

found_later : (word other : List ℕ) (others : List (List ℕ)) (n : ℕ) → bytes_eq word other ≡ false → place_of word others ≡ Some n → place_of word (other ∷ others) ≡ Some (suc n)
found_later word other others n apart found = ap (λ b. if b then Some 0 else option_map suc (place_of word others)) apart ∙ ap (option_map suc) found

pub place_is : {ts : List ItemType} {n : ℕ} {t : ItemType} → IsAt ts n t → (H : Kind) (fill : Cell → Cell → Cell) → TypesAreLawful H fill ts → place_of t.word (words ts) ≡ Some n
place_is (first {t} {ts}) H fill laws = found_first t.word (words ts)
place_is (later {s} {t} {ts} {n} at) H fill laws = found_later t.word s.word (words ts) n (bytes_apart s.word t.word (word_apart at s.word laws.1)) (place_is at H fill laws.4)
