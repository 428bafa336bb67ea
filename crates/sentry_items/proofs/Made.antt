-- Attachments and items made anew.
use Rattle.std.proofs.Common.{◌≡◌, ℕ, List, Some, None, option_map, unwrap_or, codes, String, string_bytes, refl, sym, ap, ◌∙◌}
use Rattle.std.specs.declared.alloc.Global.{Global}
use Rattle.sentry_tables.specs.Made.{made}
use Rattle.sentry_tables.specs.declared.way.Way.{Way}
use Rattle.sentry_tables.specs.declared.way.Way.TheVariants.{Same, Normal}
use Rattle.sentry_tables.specs.Cell.{Cell}
use Rattle.sentry_framing.specs.declared.kind.ItemKind.{ItemKind}
use Rattle.sentry_items.specs.Attached.{Attached}
use Rattle.sentry_items.specs.AttachmentWords.{known, attachment_type_norm, attachment_type_kind}
use Rattle.sentry_items.specs.Made.{attached_made, item_made}
use Rattle.sentry_items.specs.View.{attachment_type_cell, attachment_view, attachment, replay_recording, value, raw, payload_kind}
use Rattle.sentry_items.specs.declared.attachment.Attachment.{Attachment}
use Rattle.sentry_items.specs.declared.attachment_type.AttachmentType.{AttachmentType}
use Rattle.sentry_items.proofs.Items.{views_same}

-- ---- the types of an attachment

pub type_there : (way : Way) (a : Attachment) (t n : AttachmentType) → a.ty ≡ Some t → attachment_type_cell n ≡ made way attachment_type_kind (attachment_type_cell t)
    → Some (attachment_type_cell n) ≡ (attached_made way (attachment_view a)).ty
unfolding attached_made made
type_there Same a t n is e = ap Some e ∙ sym (ap (option_map attachment_type_cell) is)
type_there (Normal alloc) a t n is e = ap Some e ∙ sym (ap (λ o. Some (attachment_type_norm (unwrap_or (option_map attachment_type_cell o) (known (codes "event.attachment"))))) is)

pub no_type : (way : Way) (a : Attachment) → a.ty ≡ None → way ≡ Same → None ≡ (attached_made way (attachment_view a)).ty
unfolding attached_made
no_type Same a is e = sym (ap (option_map attachment_type_cell) is)
no_type (Normal alloc) a is e = absurd cc

pub usual_type : {alloc : Global} (way : Way) (a : Attachment) → a.ty ≡ None → way ≡ Normal alloc → Some (known (codes "event.attachment")) ≡ (attached_made way (attachment_view a)).ty
unfolding attached_made
usual_type Same a is e = absurd cc
usual_type (Normal alloc) a is e = sym (ap (λ o. Some (attachment_type_norm (unwrap_or (option_map attachment_type_cell o) (known (codes "event.attachment"))))) is)

pub media_type_there : (way : Way) (a : Attachment) (t n : String Global) → a.content_type ≡ Some t → string_bytes n ≡ string_bytes t → Some (string_bytes n) ≡ (attached_made way (attachment_view a)).content_type
unfolding attached_made
media_type_there Same a t n is e = ap Some e ∙ sym (ap (option_map string_bytes) is)
media_type_there (Normal alloc) a t n is e = ap Some e ∙ sym (ap (λ o. Some (unwrap_or (option_map string_bytes o) (codes "application/octet-stream"))) is)

pub no_media_type : (way : Way) (a : Attachment) → a.content_type ≡ None → way ≡ Same → None ≡ (attached_made way (attachment_view a)).content_type
unfolding attached_made
no_media_type Same a is e = sym (ap (option_map string_bytes) is)
no_media_type (Normal alloc) a is e = absurd cc

pub usual_media_type : {alloc : Global} (way : Way) (a : Attachment) (n : List ℕ) → a.content_type ≡ None → way ≡ Normal alloc → n ≡ codes "application/octet-stream" → Some n ≡ (attached_made way (attachment_view a)).content_type
unfolding attached_made
usual_media_type Same a n is e usual = absurd cc
usual_media_type (Normal alloc) a n is e usual = ap Some usual ∙ sym (ap (λ o. Some (unwrap_or (option_map string_bytes o) (codes "application/octet-stream"))) is)

-- ---- an attachment by its parts

pub parts_made : (way : Way) (a b : Attached) → b.buffer ≡ a.buffer → b.filename ≡ a.filename → b.content_type ≡ (attached_made way a).content_type → b.ty ≡ (attached_made way a).ty → b ≡ attached_made way a
unfolding attached_made
parts_made Same a b buffer filename content_type ty = views_same b a (buffer, (filename, (content_type, ty)))
parts_made (Normal alloc) a b buffer filename content_type ty = views_same b (attached_made (Normal alloc) a) (buffer, (filename, (content_type, ty)))

-- ---- items

pub attachment_made : (way : Way) (a b : Attached) → b ≡ attached_made way a → attachment b ≡ item_made way (attachment a)
unfolding attached_made item_made
attachment_made Same a b is = ap attachment is
attachment_made (Normal alloc) a b is = ap attachment is

pub value_made : (way : Way) (k : ItemKind) (a c : Cell) → c ≡ made way (payload_kind k) a → value k c ≡ item_made way (value k a)
unfolding item_made made
value_made Same k a c is = ap (value k) is
value_made (Normal alloc) k a c is = ap (value k) is

pub recording_made : (way : Way) (a b : List ℕ) → b ≡ a → replay_recording b ≡ item_made way (replay_recording a)
unfolding item_made
recording_made Same a b is = ap replay_recording is
recording_made (Normal alloc) a b is = ap replay_recording is

pub raw_made : (way : Way) → raw ≡ item_made way raw
unfolding item_made
raw_made Same = refl
raw_made (Normal alloc) = refl
