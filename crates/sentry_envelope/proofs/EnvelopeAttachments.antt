-- Attachments: their types and texts, their normal form, and what an item header says of them.
use Rattle.std.proofs.Common.{◌≡◌, ℕ, List, [], Option, Some, None, option_map, unwrap_or, codes, refl, ap, subst, IsUtf8}
use Rattle.serde_json.specs.Data.{string, member}
use Rattle.json.proofs.Printed.Utf8.{IsUtf8-are_ascii}
use Rattle.sentry_tables.specs.Cell.{Cell}
use Rattle.sentry_items.proofs.AttachmentTypes.{type_text, type_read, type_read_back, type_norm_again, type_norm_text}
use Rattle.sentry_items.specs.AttachmentWords.{known, attachment_type_of, attachment_type_text, attachment_type_norm, IsAttachmentType}
use Rattle.sentry_framing.specs.ItemHeader.{Header}
use Rattle.sentry_items.specs.Attached.{Attached, attached_type, attached_content_type, short_header, attachment_header, attached_norm, IsUtf8Option, IsTypeOption, IsAttachedStored}
use Rattle.sentry_envelope.specs.Envelope.{attached_by}

-- ---- the texts of a stored attachment

type_or_default : (o : Option Cell) → IsTypeOption o → IsAttachmentType (unwrap_or o (known (codes "event.attachment")))
type_or_default None h = refl
type_or_default (Some c) h = h

text_or_default : (o : Option (List ℕ)) → IsUtf8Option o → IsUtf8 (unwrap_or o (codes "application/octet-stream"))
text_or_default None h = IsUtf8-are_ascii (codes "application/octet-stream") refl
text_or_default (Some s) h = h

pub type_is_text : (a : Attached) → IsAttachedStored a → IsUtf8 (attachment_type_text (attached_type a))
type_is_text a h = type_text (attached_type a) (type_or_default a.ty h.2)

pub content_type_is_text : (a : Attached) → IsAttachedStored a → IsUtf8 (attached_content_type a)
content_type_is_text a h = text_or_default a.content_type h.1

-- ---- the normal form

-- the type is read back as its normal form
pub type_back : (a : Attached) → IsAttachedStored a → attachment_type_of (attachment_type_text (attached_type a)) ≡ attachment_type_norm (attached_type a)
type_back a h = type_read_back (attached_type a) (type_or_default a.ty h.2)

pub attached_norm_stored : (a : Attached) → IsAttachedStored a → IsAttachedStored (attached_norm a)
attached_norm_stored a h = (h.0, content_type_is_text a h, subst IsAttachmentType (type_back a h) (type_read (attachment_type_text (attached_type a)) (type_is_text a h)))

pub attached_norm_again : (a : Attached) → attached_norm (attached_norm a) ≡ attached_norm a
attached_norm_again a = ap (λ ty. record (attached_norm a) { ty = Some ty }) (type_norm_again (attached_type a))

-- the normal form is written alike
pub attached_norm_written : (word : List ℕ) (a : Attached) → attachment_header word (attached_norm a) ≡ attachment_header word a
attached_norm_written word a =
    ap (λ name. member (codes "attachment_type") (string name) (member (codes "content_type") (string (attached_content_type a)) (member (codes "filename") (string a.filename) (short_header word a.buffer))))
    (type_norm_text (attached_type a))

-- ---- what a header says

filename_or_empty : (o : Option (List ℕ)) → IsUtf8Option o → IsUtf8 (unwrap_or o [])
filename_or_empty None h = IsUtf8-are_ascii [] refl
filename_or_empty (Some s) h = h

type_if_given : (o : Option (List ℕ)) → IsUtf8Option o → IsTypeOption (option_map attachment_type_of o)
type_if_given None h = tt
type_if_given (Some word) h = type_read word h

pub attached_by_stored : (h : Header) (bytes : List ℕ) → IsUtf8Option h.filename → IsUtf8Option h.content_type → IsUtf8Option h.attachment_type → IsAttachedStored (attached_by h bytes)
attached_by_stored h bytes filename content_type type = (filename_or_empty h.filename filename, content_type, type_if_given h.attachment_type type)
