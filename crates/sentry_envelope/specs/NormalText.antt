-- Texts of normal forms, and of what is written while it is read.
use Rattle.std.specs.Prelude.{◌≡◌, ℕ, List, [], ◌++◌, Option, Result, Ok, Err, false}
use Rattle.json.specs.Written.{Written}
use Rattle.serde_json.specs.Written.{compact_text, has_float}
use Rattle.sentry_tables.specs.Cell.{Cell}
use Rattle.sentry_tables.specs.Kind.{Kind}
use Rattle.sentry_tables.specs.Reading.{Only, TextShown, TextShownAt, TextRefusedAt}
use Rattle.sentry_tables.specs.Writes.{written, WritesTree}
use Rattle.sentry_tables.specs.Written.{tree}
use Rattle.sentry_tables.specs.declared.error.TreeError.{TreeError}
use Rattle.sentry_framing.specs.Framing.{Frame, with_line}
use Rattle.sentry_items.specs.Containers.{container_kind, counting_header}
use Rattle.sentry_items.specs.HeaderText.{header_text}
use Rattle.sentry_envelope.specs.Envelope.{Envelope, Item, ItemShows, ItemsStand, Spells, envelope_norm, envelope_text, first_id, frame_of_item, frame_text, given_by, item_count, items_text, or_else}
use Rattle.sentry_envelope.specs.HeaderFields.{given_id}
use Rattle.sentry_envelope.specs.SentryProfile.{item_types, profile}
use Rattle.uuid.specs.declared.Uuid.{Uuid}

-- the text of an envelope that the bytes spell at the moment, and of its normal form
pub record IsNormalText (bytes : List ℕ) (now : Cell) (text : List ℕ) : Type 0 where
  pub envelope : Envelope
  pub spells : Spells profile bytes now envelope
  pub text_is : text ≡ envelope_text profile envelope
  pub normal : text ≡ envelope_text profile (envelope_norm profile envelope)

-- the id after is the one before or else, where there was none, the one that is given
abbrev pub IsFilled : Option Uuid → Cell → Option Uuid → Type 0
IsFilled before given after = given_id after ≡ or_else (given_id before) given

-- a value that the line shows now was written, and the id that it gives was filled in
unfoldable pub IsValuePassed : (Cell → Cell) → Cell → Kind → List ℕ → Option Uuid → Option Uuid → Written → Written → Type 0
IsValuePassed gives now K line before after old new =
    (c : Cell) × TextShownAt now K line c × WritesTree (written K c) old new × IsFilled before (gives c) after

abbrev pub PassesValue : (Cell → Cell) → Cell → Kind → List ℕ → Result (Unit {0}) TreeError → Option Uuid → Option Uuid → Written → Written → Type 0
PassesValue gives now K line (Ok u) before after old new = IsValuePassed gives now K line before after old new
PassesValue gives now K line (Err e) before after old new = Only e (TextRefusedAt now K line)

-- the line shows a container of so many values, and the text is its text, if no number in it is
-- held as a float
unfoldable pub IsListWritten : Kind → List ℕ → ℕ → List ℕ → Type 0
IsListWritten K line n text =
    (c : Cell) × TextShown (container_kind K) line c × (item_count c ≡ n)
    × (has_float (tree (container_kind K) c) ≡ false → text ≡ compact_text (tree (container_kind K) c))

-- the same, with the header of an item of this content type and word before the text, each ended
-- by NL
unfoldable pub IsListFramed : Kind → List ℕ → List ℕ → List ℕ → List ℕ → List ℕ → Type 0
IsListFramed K line content_type word old new =
    (c : Cell) × TextShown (container_kind K) line c
    × (has_float (tree (container_kind K) c) ≡ false → new ≡ old ++ with_line (header_text (counting_header word content_type (item_count c))) (with_line (compact_text (tree (container_kind K) c)) []))

-- an item that the frame shows was written, and the id that it gives was filled in
unfoldable pub IsItemWritten : Cell → Frame → Option Uuid → Option Uuid → List ℕ → List ℕ → Type 0
IsItemWritten now frame before after old new =
    (i : Item) × ItemShows profile now frame i × (new ≡ old ++ frame_text (frame_of_item profile i) []) × IsFilled before (given_by item_types i) after

-- items that stand first in a body were written, and the first id that they give was filled in;
-- what follows them in the body is this
unfoldable pub AreItemsWritten : Cell → List ℕ → List ℕ → Option Uuid → Option Uuid → List ℕ → List ℕ → Type 0
AreItemsWritten now body rest before after old new =
    (is : List Item) × ItemsStand profile now body is rest × (new ≡ old ++ items_text profile is) × IsFilled before (first_id item_types is) after
