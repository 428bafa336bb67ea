-- What envelopes may hold: the kind of their header, and item types, each a word with the form of its payload.
use Rattle.std.specs.Prelude.{◌≡◌, ◌≤◌, ℕ, zero, suc, List, [], ◌∷◌, false, IsUtf8, ⊤}
use Rattle.serde_json.specs.Data.{depth}
use Rattle.sentry_json.specs.Keys.{is_among}
use Rattle.sentry_tables.specs.Cell.{Cell, absent}
use Rattle.sentry_tables.specs.Kind.{Kind}
use Rattle.sentry_tables.specs.Norm.{norm}
use Rattle.sentry_tables.specs.Written.{tree}
use Rattle.sentry_tables.specs.Meets.{IsPlain, IsReadable, IsStored}
use Rattle.sentry_tables.specs.Lawful.{IsLawful}
use Rattle.sentry_items.specs.Containers.{container_kind}

pub data Form : Type 1 where
  -- the payload is an attachment's bytes; its name and types stand in the item's header
  attachment_form : Form
  -- the payload is bytes of its own
  opaque_form : Form
  -- the payload is one JSON text of this kind
  json_form : Kind → Form
  -- the payload is a JSON object with an array `items` of this kind; this content type stands in the item's header
  container_form : List ℕ → Kind → Form

pub record ItemType : Type 1 where
  -- the word at `type` in the item's header
  pub word : List ℕ
  pub form : Form
  -- the id that a value of a JSON payload gives its envelope, or absent
  pub gives : Cell → Cell

abbrev pub words : List ItemType → List (List ℕ)
words [] = []
words (t ∷ ts) = t.word ∷ words ts

-- what the item type at this place has, or the other where no type stands
abbrev pub at_place {ℓ} : {A : Type ℓ} → List ItemType → ℕ → A → (ItemType → A) → A
at_place [] n other has = other
at_place (t ∷ ts) zero other has = has t
at_place (t ∷ ts) (suc n) other has = at_place ts n other has

-- The header's kind, how an id that is given fills an absent one, and the item types in order.
pub record Profile : Type 1 where
  pub header : Kind
  pub fill : Cell → Cell → Cell
  pub types : List ItemType

-- ---- what a profile owes

abbrev pub FormIsLawful : Form → Type 0
FormIsLawful attachment_form = ⊤
FormIsLawful opaque_form = ⊤
FormIsLawful (json_form K) = IsLawful K
FormIsLawful (container_form content_type K) = IsLawful K × IsUtf8 content_type

-- How ids fill a header of this kind.
pub record FillLaws (H : Kind) (fill : Cell → Cell → Cell) (id : Cell) : Type 0 where
  pub fill_stored : (h : Cell) → IsStored H h → IsStored H (fill id h)
  pub fill_plain : (h : Cell) → IsPlain H h → IsPlain H (fill id h)
  pub fill_readable : (h : Cell) → IsReadable H h → IsReadable H (fill id h)
  pub fill_twice : (h : Cell) → fill id (fill id h) ≡ fill id h
  pub fill_norm : (h : Cell) → IsStored H h → IsPlain H h → norm H (fill id h) ≡ fill id (norm H h)
  pub fill_tree : (h : Cell) → IsStored H h → IsPlain H h → tree H h ≡ tree H (norm H h) → tree H (fill id h) ≡ tree H (fill id (norm H h))
  pub fill_depth : (h : Cell) → IsStored H h → depth (tree H (fill id h)) ≤ depth (tree H h)

-- A value gives the id that its normal form gives, and that id may fill a header.
abbrev pub GivesAlike : Kind → (Cell → Cell → Cell) → (Cell → Cell) → Kind → Type 0
GivesAlike H fill gives K = (c : Cell) → IsStored K c → IsPlain K c → (gives (norm K c) ≡ gives c) × FillLaws H fill (gives c)

abbrev pub GivesLawful : Kind → (Cell → Cell → Cell) → (Cell → Cell) → Form → Type 0
GivesLawful H fill gives attachment_form = ⊤
GivesLawful H fill gives opaque_form = ⊤
GivesLawful H fill gives (json_form K) = GivesAlike H fill gives K
GivesLawful H fill gives (container_form content_type K) = GivesAlike H fill gives (container_kind K)

-- each word is UTF-8 and stands once, forms are lawful, and ids fill headers
abbrev pub TypesAreLawful : Kind → (Cell → Cell → Cell) → List ItemType → Type 0
TypesAreLawful H fill [] = ⊤
TypesAreLawful H fill (t ∷ ts) =
    IsUtf8 t.word × (is_among t.word (words ts) ≡ false) × FormIsLawful t.form × GivesLawful H fill t.gives t.form × TypesAreLawful H fill ts

pub record ProfileLaws (P : Profile) : Type 0 where
  pub header : IsLawful P.header
  -- a header that no item fills stays
  pub unfilled : (h : Cell) → P.fill absent h ≡ h
  pub types : TypesAreLawful P.header P.fill P.types
