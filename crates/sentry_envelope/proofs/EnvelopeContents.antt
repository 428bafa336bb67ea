-- The laws of what one item holds, form by form.
use Rattle.std.proofs.Common.{◌≡◌, ◌<◌, ◌^◌, ℕ, zero, suc, List, length, Some, codes, refl, sym, ap, ap₂, ◌∙◌, subst, arith, IsUtf8}
use Rattle.serde_json.specs.Data.{number, unsigned, string, object, no_members, member}
use Rattle.serde_json.specs.Written.{compact_text}
use Rattle.sentry_json.proofs.Pieces.{compact_clean}
use Rattle.sentry_tables.specs.Passed.{count}
use Rattle.sentry_tables.specs.Cell.{Cell, Cells, no_cells, cell}
use Rattle.sentry_tables.specs.Kind.{Kind, must, list, no_rows, row}
use Rattle.sentry_tables.specs.Norm.{norm, rows_norm, cells_of, each_cell}
use Rattle.sentry_tables.specs.Written.{tree}
use Rattle.sentry_tables.specs.Lawful.{IsMoment}
use Rattle.sentry_tables.specs.Laws.{IsStableAt, TextShows}
use Rattle.sentry_tables.proofs.Laws.{has_laws}
use Rattle.sentry_framing.specs.Framing.{Frame, HasSize}
use Rattle.sentry_framing.specs.ItemHeader.{place_of, Header, read_header}
use Rattle.sentry_envelope.specs.Profile.{Form, attachment_form, opaque_form, json_form, container_form, FormIsLawful}
use Rattle.sentry_items.specs.Containers.{container_kind}
use Rattle.sentry_items.specs.Attached.{Attached, short_header, attached_norm, IsAttachedStored}
use Rattle.sentry_envelope.specs.Envelope.{Content, attached, opaque, value, IsValue, attached_by, ContentShows, first_cell, item_count, payload_by, container_header, header_by, content_norm, stored_content, plain_content, readable_content, ContentMeets, stated_by}
use Rattle.sentry_items.proofs.Containers.{container_lawful}
use Rattle.sentry_envelope.proofs.EnvelopeAttachments.{type_is_text, content_type_is_text, attached_norm_stored, attached_norm_again, attached_norm_written, attached_by_stored, type_back}
use Rattle.sentry_envelope.proofs.EnvelopeWrittenHeaders.{header_said, short_read, attachment_read, container_read, AreTexts}

-- ---- containers

count_each : (f : Cell → Cell) (cs : Cells) → count (each_cell f cs) ≡ count cs
count_each f no_cells = refl
count_each f (cell c cs) = ap suc (count_each f cs)

count_rows : (K : Kind) (cs : Cells) → count (cells_of (first_cell (rows_norm (row (codes "items") must (list K) no_rows) cs))) ≡ count (cells_of (first_cell cs))
count_rows K no_cells = refl
count_rows K (cell c cs) = count_each (norm K) (cells_of c)

-- the normal form has as many items
pub count_norm : (K : Kind) (c : Cell) → item_count (norm (container_kind K) c) ≡ item_count c
count_norm K c = count_rows K (cells_of c)

-- ---- what is written is read back

module _ (words : List (List ℕ)) (word : List ℕ) (n : ℕ) (place : place_of word words ≡ Some n) (utf8 : IsUtf8 word) where
  pub header_is_read : (f : Form) (c : Content) → FormIsLawful f → ContentMeets stored_content f c → stated_by f c < 2 ^ 64
      → read_header words (compact_text (object (header_by word f c))) ≡ Some (header_said n f c)
  header_is_read attachment_form (attached a) laws s sized = attachment_read words word n place a utf8 (type_is_text a s) (content_type_is_text a s) s.0 sized
  header_is_read attachment_form _ laws s sized = absurd s
  header_is_read opaque_form (opaque b) laws s sized = short_read words word n place b utf8 sized
  header_is_read opaque_form _ laws s sized = absurd s
  header_is_read (json_form K) (value c) laws s sized = short_read words word n place (compact_text (tree K c)) utf8 sized
  header_is_read (json_form K) _ laws s sized = absurd s
  header_is_read (container_form content_type K) (value c) laws s sized = container_read words word n place content_type c utf8 laws.1 sized
  header_is_read (container_form content_type K) _ laws s sized = absurd s

pub size_said : (f : Form) (c : Content) (n : ℕ) → ContentMeets stored_content f c → HasSize (header_said n f c).length (payload_by f c)
size_said attachment_form (attached a) n s = refl
size_said attachment_form _ n s = absurd s
size_said opaque_form (opaque b) n s = refl
size_said opaque_form _ n s = absurd s
size_said (json_form K) (value c) n s = refl
size_said (json_form K) _ n s = absurd s
size_said (container_form content_type K) (value c) n s = compact_clean (tree (container_kind K) c)
size_said (container_form content_type K) _ n s = absurd s

-- what the written header says of the bytes is the normal form
attached_back : (a : Attached) → (s : IsAttachedStored a) → attached (attached_by (header_said zero attachment_form (attached a)) a.buffer) ≡ attached (attached_norm a)
attached_back a s = ap (λ ty. attached (record (attached_norm a) { ty = Some ty })) (type_back a s)

pub content_back : (f : Form) (c : Content) (n : ℕ) (now : Cell) → FormIsLawful f → ContentMeets stored_content f c → ContentMeets plain_content f c → ContentMeets readable_content f c
    → ContentShows f now (header_said n f c) (payload_by f c) (content_norm f c)
content_back attachment_form (attached a) n now laws s p r = sym (attached_back a s)
content_back attachment_form _ n now laws s p r = absurd s
content_back opaque_form (opaque b) n now laws s p r = refl
content_back opaque_form _ n now laws s p r = absurd s
content_back (json_form K) (value c) n now laws s p r = ((has_laws K laws).text_back c now s p r.0 r.1).0
content_back (json_form K) _ n now laws s p r = absurd s
content_back (container_form content_type K) (value c) n now laws s p r = ((has_laws (container_kind K) (container_lawful K laws.0)).text_back c now s p r.0 r.1).0
content_back (container_form content_type K) _ n now laws s p r = absurd s

value_only : (Q : Cell → Type 0) (m : Cell) → ((c : Cell) → Q c → c ≡ m) → (x : Content) → IsValue Q x → x ≡ value m
value_only Q m only (value c) h = ap value (only c h)
value_only Q m only _ h = absurd h

pub content_only : (f : Form) (c : Content) (n : ℕ) (now : Cell) → FormIsLawful f → ContentMeets stored_content f c → ContentMeets plain_content f c → ContentMeets readable_content f c
    → (x : Content) → ContentShows f now (header_said n f c) (payload_by f c) x → x ≡ content_norm f c
content_only attachment_form (attached a) n now laws s p r x h = h ∙ attached_back a s
content_only attachment_form _ n now laws s p r x h = absurd s
content_only opaque_form (opaque b) n now laws s p r x h = h
content_only opaque_form _ n now laws s p r x h = absurd s
content_only (json_form K) (value c) n now laws s p r x h = value_only (TextShows K now (compact_text (tree K c))) (norm K c) ((has_laws K laws).text_back c now s p r.0 r.1).1 x h
content_only (json_form K) _ n now laws s p r x h = absurd s
content_only (container_form content_type K) (value c) n now laws s p r x h =
    value_only (TextShows (container_kind K) now (compact_text (tree (container_kind K) c))) (norm (container_kind K) c) ((has_laws (container_kind K) (container_lawful K laws.0)).text_back c now s p r.0 r.1).1 x h
content_only (container_form content_type K) _ n now laws s p r x h = absurd s

-- ---- the normal form is stable

pub record IsContentStable (f : Form) (c : Content) : Type 0 where
  pub again : content_norm f (content_norm f c) ≡ content_norm f c
  pub stored : ContentMeets stored_content f (content_norm f c)
  pub plain : ContentMeets plain_content f (content_norm f c)
  pub readable : ContentMeets readable_content f c → ContentMeets readable_content f (content_norm f c)

json_stable : (K : Kind) (c : Cell) → IsStableAt K c → IsContentStable (json_form K) (value c)
json_stable K c h = record { again = ap value h.again; stored = h.stored; plain = h.plain; readable = λ r. (h.readable r.0, let deep = r.1 in let less = h.depth in omega arith) }

pub content_stable : (f : Form) (c : Content) → FormIsLawful f → ContentMeets stored_content f c → ContentMeets plain_content f c → IsContentStable f c
content_stable attachment_form (attached a) laws s p = record { again = ap attached (attached_norm_again a); stored = attached_norm_stored a s; plain = tt; readable = λ r. tt }
content_stable attachment_form _ laws s p = absurd s
content_stable opaque_form (opaque b) laws s p = record { again = refl; stored = tt; plain = tt; readable = λ r. tt }
content_stable opaque_form _ laws s p = absurd s
content_stable (json_form K) (value c) laws s p = json_stable K c ((has_laws K laws).stable c s p)
content_stable (json_form K) _ laws s p = absurd s
content_stable (container_form content_type K) (value c) laws s p =
    let own = json_stable (container_kind K) c ((has_laws (container_kind K) (container_lawful K laws.0)).stable c s p) in
    record { again = own.again; stored = own.stored; plain = own.plain; readable = own.readable }
content_stable (container_form content_type K) _ laws s p = absurd s

-- ---- what is shown is stored and plain, and is written as its normal form is

-- the frame of a content, by its type's word and form
abbrev pub framed_as : List ℕ → Form → Content → Frame
framed_as word f c = record { header = compact_text (object (header_by word f c)); payload = payload_by f c }

pub record IsContentRewritten (word : List ℕ) (f : Form) (c : Content) : Type 0 where
  pub stored : ContentMeets stored_content f c
  pub plain : ContentMeets plain_content f c
  pub alike : framed_as word f c ≡ framed_as word f (content_norm f c)

attached_rewritten : (word : List ℕ) (a : Attached) → IsAttachedStored a → IsContentRewritten word attachment_form (attached a)
attached_rewritten word a s = record { stored = s; plain = tt; alike = ap (λ members. record { header = compact_text (object members); payload = a.buffer }) (sym (attached_norm_written word a)) }

json_alike : (word : List ℕ) (K : Kind) (c : Cell) → tree K c ≡ tree K (norm K c) → framed_as word (json_form K) (value c) ≡ framed_as word (json_form K) (value (norm K c))
json_alike word K c e = ap (λ d. record { header = compact_text (object (short_header word (compact_text d))); payload = compact_text d }) e

counted_alike : (word content_type : List ℕ) (K : Kind) (c : Cell) → container_header word content_type c ≡ container_header word content_type (norm (container_kind K) c)
counted_alike word content_type K c =
    ap (λ n. member (codes "content_type") (string content_type) (member (codes "item_count") (number (unsigned n)) (member (codes "type") (string word) no_members))) (sym (count_norm K c))

container_alike : (word content_type : List ℕ) (K : Kind) (c : Cell) → tree (container_kind K) c ≡ tree (container_kind K) (norm (container_kind K) c)
    → framed_as word (container_form content_type K) (value c) ≡ framed_as word (container_form content_type K) (value (norm (container_kind K) c))
container_alike word content_type K c e = ap₂ (λ members d. record { header = compact_text (object members); payload = compact_text d }) (counted_alike word content_type K c) e

-- what is stated of the normal form is what is stated of the content, where both have one frame
pub stated_norm : (word : List ℕ) (f : Form) (c : Content) → ContentMeets stored_content f c → framed_as word f c ≡ framed_as word f (content_norm f c) → stated_by f (content_norm f c) ≡ stated_by f c
stated_norm word attachment_form (attached a) s e = refl
stated_norm word attachment_form _ s e = absurd s
stated_norm word opaque_form (opaque b) s e = refl
stated_norm word opaque_form _ s e = absurd s
stated_norm word (json_form K) (value c) s e = ap (λ (f : Frame). length f.payload) (sym e)
stated_norm word (json_form K) _ s e = absurd s
stated_norm word (container_form content_type K) (value c) s e = count_norm K c
stated_norm word (container_form content_type K) _ s e = absurd s

pub content_rewritten : (word : List ℕ) (f : Form) (c : Content) (h : Header) (payload : List ℕ) (now : Cell) → FormIsLawful f → IsMoment now → AreTexts h → ContentShows f now h payload c → IsContentRewritten word f c
content_rewritten word attachment_form c h payload now laws moment texts shown =
    subst (IsContentRewritten word attachment_form) (sym shown) (attached_rewritten word (attached_by h payload) (attached_by_stored h payload texts.0 texts.1 texts.2))
content_rewritten word opaque_form c h payload now laws moment texts shown = subst (IsContentRewritten word opaque_form) (sym shown) (record { stored = tt; plain = tt; alike = refl })
content_rewritten word (json_form K) (value c) h payload now laws moment texts shown =
    let own = (has_laws K laws).text_rewritten payload c now moment shown in
    record { stored = own.0; plain = own.1; alike = json_alike word K c own.2 }
content_rewritten word (json_form K) _ h payload now laws moment texts shown = absurd shown
content_rewritten word (container_form content_type K) (value c) h payload now laws moment texts shown =
    let own = (has_laws (container_kind K) (container_lawful K laws.0)).text_rewritten payload c now moment shown in
    record { stored = own.0; plain = own.1; alike = container_alike word content_type K c own.2 }
content_rewritten word (container_form content_type K) _ h payload now laws moment texts shown = absurd shown
