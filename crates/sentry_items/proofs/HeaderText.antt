-- The texts of item headers, piece by piece.
use Rattle.std.proofs.Common.{◌≡◌, ℕ, List, [], ◌∷◌, ◌++◌, Result, Ok, Err, is_ok, codes, decimal, length, sym, ◌∙◌, append_assoc, refl}
use Rattle.std.specs.Prelude.{OnOk, if◌then◌else◌}
use Rattle.json.specs.Print.{escape, escape_byte, print, print_from}
use Rattle.json.specs.Token.{begin_object}
use Rattle.json.specs.Tree.{members_tokens}
use Rattle.serde_json.specs.Data.{Members, object}
use Rattle.serde_json.specs.Written.{members_outline}
use Rattle.serde_json.proofs.Texts.{print-outline}
use Rattle.sentry_items.specs.Attached.{Attached, attached_type, attached_content_type, attachment_header, short_header}
use Rattle.sentry_items.specs.AttachmentWords.{attachment_type_text}
use Rattle.sentry_items.specs.Containers.{counting_header}
use Rattle.sentry_items.specs.HeaderText.{header_text, types_text}

-- the tokens of an object print as its text
print_header : (ms : Members) → print (begin_object ∷ members_tokens (members_outline ms)) ≡ header_text ms
unfolding header_text
print_header ms = print-outline (object ms)

-- ---- the tokens of each header, printed

short_printed : (word payload : List ℕ) → print (begin_object ∷ members_tokens (members_outline (short_header word payload)))
    ≡ codes "{\"length\":" ++ (decimal (length payload) ++ (codes ",\"type\":\"" ++ ((escape word ++ 34 ∷ []) ++ codes "}")))
unfolding print_from escape_byte
short_printed word payload = refl

counting_printed : (word content_type : List ℕ) (n : ℕ) → print (begin_object ∷ members_tokens (members_outline (counting_header word content_type n)))
    ≡ codes "{\"content_type\":\"" ++ ((escape content_type ++ 34 ∷ [])
    ++ (codes ",\"item_count\":" ++ (decimal n ++ (codes ",\"type\":\"" ++ ((escape word ++ 34 ∷ []) ++ codes "}")))))
unfolding print_from escape_byte
counting_printed word content_type n = refl

attachment_printed : (a : Attached) → print (begin_object ∷ members_tokens (members_outline (attachment_header (codes "attachment") a)))
    ≡ codes "{\"attachment_type\":\"" ++ ((escape (attachment_type_text (attached_type a)) ++ 34 ∷ [])
    ++ (codes ",\"content_type\":\"" ++ ((escape (attached_content_type a) ++ 34 ∷ [])
    ++ (codes ",\"filename\":\"" ++ ((escape a.filename ++ 34 ∷ [])
    ++ (codes ",\"length\":" ++ (decimal (length a.buffer) ++ codes ",\"type\":\"attachment\"}")))))))
unfolding print_from escape_byte
attachment_printed a = refl

-- ---- what is appended piece by piece is that text, where the last piece may be refused

pub short_pieces : {E : Type 0} (r : Result (Unit {0}) E) (word payload old a b new : List ℕ)
    → a ≡ old ++ (codes "{\"length\":" ++ decimal (length payload)) → b ≡ a ++ (codes ",\"type\":\"" ++ escape word)
    → new ≡ (if is_ok r then b ++ codes "\"}" else b) → OnOk r (new ≡ old ++ header_text (short_header word payload))
short_pieces (Ok u) word payload old a b new ea eb en =
    rw (sym (print_header (short_header word payload)) ∙ short_printed word payload, en, eb, ea) (simp append_assoc)
short_pieces (Err x) word payload old a b new ea eb en = tt

pub counting_pieces : {E : Type 0} (r : Result (Unit {0}) E) (word content_type : List ℕ) (n : ℕ) (old a b d new : List ℕ)
    → a ≡ old ++ (codes "{\"content_type\":\"" ++ escape content_type) → b ≡ a ++ (codes "\",\"item_count\":" ++ decimal n) → d ≡ b ++ (codes ",\"type\":\"" ++ escape word)
    → new ≡ (if is_ok r then d ++ codes "\"}" else d) → OnOk r (new ≡ old ++ header_text (counting_header word content_type n))
counting_pieces (Ok u) word content_type n old a b d new ea eb ed en =
    rw (sym (print_header (counting_header word content_type n)) ∙ counting_printed word content_type n, en, ed, eb, ea) (simp append_assoc)
counting_pieces (Err x) word content_type n old a b d new ea eb ed en = tt

pub attachment_pieces : {E : Type 0} (r : Result (Unit {0}) E) (t : Attached) (old a b d new : List ℕ)
    → a ≡ old ++ types_text (attachment_type_text (attached_type t)) (attached_content_type t) → b ≡ a ++ escape t.filename
    → d ≡ b ++ (codes "\",\"length\":" ++ decimal (length t.buffer))
    → new ≡ (if is_ok r then d ++ codes ",\"type\":\"attachment\"}" else d) → OnOk r (new ≡ old ++ header_text (attachment_header (codes "attachment") t))
attachment_pieces (Ok u) t old a b d new ea eb ed en =
    rw (sym (print_header (attachment_header (codes "attachment") t)) ∙ attachment_printed t, en, ed, eb, ea) (simp append_assoc)
attachment_pieces (Err x) t old a b d new ea eb ed en = tt

-- both types piece by piece, and the usual ones at once
pub types_pieces : {E : Type 0} (r : Result (Unit {0}) E) (ty content_type old a b new : List ℕ)
    → a ≡ old ++ (codes "{\"attachment_type\":\"" ++ escape ty) → b ≡ a ++ (codes "\",\"content_type\":\"" ++ escape content_type)
    → new ≡ (if is_ok r then b ++ codes "\",\"filename\":\"" else b) → OnOk r (new ≡ old ++ types_text ty content_type)
types_pieces (Ok u) ty content_type old a b new ea eb en = rw (en, eb, ea) (simp append_assoc)
types_pieces (Err x) ty content_type old a b new ea eb en = tt

pub usual_types : {E : Type 0} (r : Result (Unit {0}) E) (ty content_type old new : List ℕ) → ty ≡ codes "event.attachment" → content_type ≡ codes "application/octet-stream"
    → new ≡ (if is_ok r then old ++ codes "{\"attachment_type\":\"event.attachment\",\"content_type\":\"application/octet-stream\",\"filename\":\"" else old)
    → OnOk r (new ≡ old ++ types_text ty content_type)
unfolding escape_byte
usual_types (Ok u) ty content_type old new et ec en = rw (et, ec) en
usual_types (Err x) ty content_type old new et ec en = tt

-- pieces behind one another keep what was there before, where the last one may be refused
pub pieces_kept : {E : Type 0} (r : Result (Unit {0}) E) (old a b d new t u v w : List ℕ) → a ≡ old ++ t → b ≡ a ++ u → d ≡ b ++ v → new ≡ (if is_ok r then d ++ w else d)
    → (part : List ℕ) × (new ≡ old ++ part)
pieces_kept (Ok x) old a b d new t u v w ea eb ed en = (t ++ (u ++ (v ++ w)), rw (en, ed, eb, ea) (simp append_assoc))
pieces_kept (Err x) old a b d new t u v w ea eb ed en = (t ++ (u ++ v), rw (en, ed, eb, ea) (simp append_assoc))
