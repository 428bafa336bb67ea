-- Attachments: their bytes, what an item's header says of them, and how that header is written.
use Rattle.std.specs.Prelude.{ℕ, List, ◌∷◌, ◌++◌, length, Option, Some, None, unwrap_or, codes, IsUtf8, ⊤}
use Rattle.serde_json.specs.Data.{number, unsigned, string, object, Members, no_members, member}
use Rattle.serde_json.specs.Written.{compact_text}
use Rattle.sentry_json.specs.Line.{newline}
use Rattle.sentry_tables.specs.Cell.{Cell}
use Rattle.sentry_items.specs.AttachmentWords.{known, attachment_type_norm, attachment_type_text, IsAttachmentType}

pub record Attached : Type 0 where
  pub buffer : List ℕ
  pub filename : List ℕ
  pub content_type : Option (List ℕ)
  pub ty : Option Cell

-- ---- what is written

abbrev pub attached_type : Attached → Cell
attached_type a = unwrap_or a.ty (known (codes "event.attachment"))

abbrev pub attached_content_type : Attached → List ℕ
attached_content_type a = unwrap_or a.content_type (codes "application/octet-stream")

-- the header of an item of opaque bytes or of one JSON text: keys in byte order
abbrev pub short_header : List ℕ → List ℕ → Members
short_header word payload = member (codes "length") (number (unsigned (length payload))) (member (codes "type") (string word) no_members)

-- the header of an attachment: keys in byte order
abbrev pub attachment_header : List ℕ → Attached → Members
attachment_header word a =
    member (codes "attachment_type") (string (attachment_type_text (attached_type a)))
    (member (codes "content_type") (string (attached_content_type a))
    (member (codes "filename") (string a.filename)
    (short_header word a.buffer)))

-- an attachment alone: its header, NL and its bytes
unfoldable pub attachment_text : Attached → List ℕ
attachment_text a = compact_text (object (attachment_header (codes "attachment") a)) ++ newline ∷ a.buffer

-- ---- the normal form

-- absent types are filled, and a custom type that spells a known one becomes that one
abbrev pub attached_norm : Attached → Attached
attached_norm a = record a {
  content_type = Some (attached_content_type a);
  ty = Some (attachment_type_norm (attached_type a));
}

-- ---- what Rust's types hold

abbrev pub IsUtf8Option : Option (List ℕ) → Type 0
IsUtf8Option None = ⊤
IsUtf8Option (Some s) = IsUtf8 s

abbrev pub IsTypeOption : Option Cell → Type 0
IsTypeOption None = ⊤
IsTypeOption (Some c) = IsAttachmentType c

abbrev pub IsAttachedStored : Attached → Type 0
IsAttachedStored a = IsUtf8 a.filename × IsUtf8Option a.content_type × IsTypeOption a.ty
