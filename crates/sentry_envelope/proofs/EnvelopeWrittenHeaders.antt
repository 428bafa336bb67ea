-- Written item headers: what an item writes is an item header, and this is what it says.
use Rattle.std.proofs.Common.{◌≡◌, ◌<◌, ◌≤◌, ◌^◌, ℕ, List, length, Option, Some, None, codes, refl, ap, ◌∙◌, subst, arith, IsUtf8}
use Rattle.std.proofs.lemmas.Option.{none-some, same_Some, option_and_then_some}
use Rattle.serde_json.specs.Data.{Data, null, string, object, Members, depth}
use Rattle.serde_json.specs.Find.{get, as_str}
use Rattle.serde_json.specs.Written.{compact_text}
use Rattle.json.proofs.Printed.Utf8.{IsUtf8-are_ascii}
use Rattle.sentry_json.specs.Line.{tree_of}
use Rattle.sentry_json.specs.Sound.{IsSound}
use Rattle.sentry_json.proofs.Lines.{tree_of_written, tree_of_sound}
use Rattle.sentry_tables.specs.Cell.{Cell}
use Rattle.sentry_tables.proofs.Shown.{SoundIf, found_sound}
use Rattle.sentry_items.specs.AttachmentWords.{attachment_type_text}
use Rattle.sentry_framing.specs.ItemHeader.{◌>>=◌, place_of, optional, whole_number, Header, header_of, read_header}
use Rattle.sentry_envelope.specs.Profile.{Form, container_form}
use Rattle.sentry_items.specs.Attached.{Attached, attached_type, attached_content_type, short_header, attachment_header, IsUtf8Option}
use Rattle.sentry_envelope.specs.Envelope.{Content, attached, opaque, value, item_count, payload_by, container_header}

-- ---- the members are a sound object

pub short_sound : (word payload : List ℕ) → IsUtf8 word → length payload < 2 ^ 64 → IsSound (object (short_header word payload))
short_sound word payload text sized = (((refl, tt), (tt, tt)), (IsUtf8-are_ascii (codes "length") refl, sized, (IsUtf8-are_ascii (codes "type") refl, text, tt)))

pub attachment_sound : (word : List ℕ) (a : Attached) → IsUtf8 word → IsUtf8 (attachment_type_text (attached_type a)) → IsUtf8 (attached_content_type a) → IsUtf8 a.filename → length a.buffer < 2 ^ 64
    → IsSound (object (attachment_header word a))
attachment_sound word a text type content_type filename sized =
    let rest = short_sound word a.buffer text sized in (
      ((refl, (refl, (refl, (refl, tt)))), ((refl, (refl, (refl, tt))), ((refl, (refl, tt)), rest.0))),
      (IsUtf8-are_ascii (codes "attachment_type") refl, type, (IsUtf8-are_ascii (codes "content_type") refl, content_type, (IsUtf8-are_ascii (codes "filename") refl, filename, rest.1))),
    )

pub container_sound : (word content_type : List ℕ) (c : Cell) → IsUtf8 word → IsUtf8 content_type → item_count c < 2 ^ 64 → IsSound (object (container_header word content_type c))
container_sound word content_type c text type sized = (
  ((refl, (refl, tt)), ((refl, tt), (tt, tt))),
  (IsUtf8-are_ascii (codes "content_type") refl, type, (IsUtf8-are_ascii (codes "item_count") refl, sized, (IsUtf8-are_ascii (codes "type") refl, text, tt))),
)

-- ---- what they say

abbrev pub short_said : ℕ → List ℕ → Header
short_said n payload = record { kind = n; length = Some (length payload); content_type = None; filename = None; attachment_type = None }

abbrev pub attachment_said : ℕ → Attached → Header
attachment_said n a = record {
  kind = n;
  length = Some (length a.buffer);
  content_type = Some (attached_content_type a);
  filename = Some a.filename;
  attachment_type = Some (attachment_type_text (attached_type a));
}

abbrev pub container_said : ℕ → List ℕ → Header
container_said n content_type = record { kind = n; length = None; content_type = Some content_type; filename = None; attachment_type = None }

-- what the written header of the type at this place says
abbrev pub header_said : ℕ → Form → Content → Header
header_said n f (attached a) = attachment_said n a
header_said n (container_form content_type K) (value c) = container_said n content_type
header_said n f c = short_said n (payload_by f c)

pub kind_said : (n : ℕ) (f : Form) (c : Content) → (header_said n f c).kind ≡ n
kind_said n f (attached a) = refl
kind_said n f (opaque b) = refl
kind_said n (container_form content_type K) (value c) = refl
kind_said n _ (value c) = refl

module _ (words : List (List ℕ)) where
  -- a sound object is read as the fields that it has
  pub members_read : (ms : Members) (h : Header) → IsSound (object ms) → depth (object ms) ≤ 127 → header_of words (object ms) ≡ Some h → read_header words (compact_text (object ms)) ≡ Some h
  unfolding read_header
  members_read ms h sound shallow is = ap (λ o. o >>= header_of words) (tree_of_written (object ms) sound shallow) ∙ is

  module _ (word : List ℕ) (n : ℕ) (place : place_of word words ≡ Some n) where
    short_fields : (payload : List ℕ) → header_of words (object (short_header word payload)) ≡ Some (short_said n payload)
    unfolding header_of
    short_fields payload = rw place refl

    attachment_fields : (a : Attached) → header_of words (object (attachment_header word a)) ≡ Some (attachment_said n a)
    unfolding header_of
    attachment_fields a = rw place refl

    container_fields : (content_type : List ℕ) (c : Cell) → header_of words (object (container_header word content_type c)) ≡ Some (container_said n content_type)
    unfolding header_of
    container_fields content_type c = rw place refl

    pub short_read : (payload : List ℕ) → IsUtf8 word → length payload < 2 ^ 64 → read_header words (compact_text (object (short_header word payload))) ≡ Some (short_said n payload)
    short_read payload text sized = members_read (short_header word payload) (short_said n payload) (short_sound word payload text sized) (omega arith) (short_fields payload)

    pub attachment_read : (a : Attached) → IsUtf8 word → IsUtf8 (attachment_type_text (attached_type a)) → IsUtf8 (attached_content_type a) → IsUtf8 a.filename → length a.buffer < 2 ^ 64
        → read_header words (compact_text (object (attachment_header word a))) ≡ Some (attachment_said n a)
    attachment_read a text type content_type filename sized = members_read (attachment_header word a) (attachment_said n a) (attachment_sound word a text type content_type filename sized) (omega arith) (attachment_fields a)

    pub container_read : (content_type : List ℕ) (c : Cell) → IsUtf8 word → IsUtf8 content_type → item_count c < 2 ^ 64 → read_header words (compact_text (object (container_header word content_type c))) ≡ Some (container_said n content_type)
    container_read content_type c text type sized = members_read (container_header word content_type c) (container_said n content_type) (container_sound word content_type c text type sized) (omega arith) (container_fields content_type c)

-- ---- the texts of a header that is read

-- what a header says is UTF-8
abbrev pub AreTexts : Header → Type 0
AreTexts h = IsUtf8Option h.filename × IsUtf8Option h.content_type × IsUtf8Option h.attachment_type

get_sound : (k : List ℕ) (d : Data) → IsSound d → SoundIf (get k d)
get_sound k (object ms) h = found_sound k ms h.1
get_sound k _ h = tt

found_is_text : (o : Option Data) (t : Option (List ℕ)) → SoundIf o → optional as_str o ≡ Some t → IsUtf8Option t
found_is_text None t h e = subst IsUtf8Option (same_Some None t e) tt
found_is_text (Some null) t h e = subst IsUtf8Option (same_Some None t e) tt
found_is_text (Some (string s)) t h e = subst IsUtf8Option (same_Some (Some s) t e) h
found_is_text (Some _) t h e = absurd (none-some t e)

module _ (words : List (List ℕ)) where
  fields_are_texts : (d : Data) (h : Header) → IsSound d → header_of words d ≡ Some h → AreTexts h
  unfolding header_of
  fields_are_texts d h sound e =
      option_and_then_some _ (get (codes "type") d >>= as_str) h e (λ word w e.
      option_and_then_some _ (place_of word words) h e (λ kind k e.
      option_and_then_some _ (optional whole_number (get (codes "length") d)) h e (λ length l e.
      option_and_then_some _ (optional as_str (get (codes "content_type") d)) h e (λ content_type c e.
      option_and_then_some _ (optional as_str (get (codes "filename") d)) h e (λ filename f e.
      option_and_then_some _ (optional as_str (get (codes "attachment_type") d)) h e (λ attachment_type a e.
      subst AreTexts (same_Some _ h e) (
        found_is_text (get (codes "filename") d) filename (get_sound (codes "filename") d sound) f,
        found_is_text (get (codes "content_type") d) content_type (get_sound (codes "content_type") d sound) c,
        found_is_text (get (codes "attachment_type") d) attachment_type (get_sound (codes "attachment_type") d sound) a,
      )))))))

  pub header_texts : (line : List ℕ) (h : Header) → read_header words line ≡ Some h → AreTexts h
  unfolding read_header
  header_texts line h e = option_and_then_some (header_of words) (tree_of line) h e (λ d is e. fields_are_texts d h (tree_of_sound line d is) e)
