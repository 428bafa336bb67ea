-- Headers of a type and perhaps a length, in this order.
use Rattle.std.proofs.Common.{true, ◌≡◌, ◌^◌, ◌<◌, ℕ, List, [], ◌∷◌, ◌++◌, Option, None, Some, option_and_then, decimal, refl, sym, ap, ◌∙◌, append_assoc, arith, IsUtf8, subst, drop, take-append-drop}
use Rattle.std.specs.Prelude.{codes}
use Rattle.std.proofs.lemmas.Fmt.{IsAscii-decimal}
use Rattle.std.proofs.lemmas.Str.{IsUtf8-append, IsUtf8-from_ascii}
use Rattle.json.specs.Print.{escape_byte}
use Rattle.json.proofs.Printed.Decimals.{IsNumber-decimal}
use Rattle.serde_json.specs.Data.{Data, no_members, member, object, string, number, unsigned}
use Rattle.serde_json.specs.Read.{of_json}
use Rattle.serde_json.specs.Written.{outline, compact_text}
use Rattle.serde_json.proofs.Numbers.{number_of-decimal}
use Rattle.sentry_json.specs.Balanced.{IsBalanced}
use Rattle.sentry_json.specs.Digits.{AreInteger}
use Rattle.sentry_json.proofs.Lines.{tree_of_from}
use Rattle.sentry_json.proofs.Pieces.{compact_object}
use Rattle.sentry_json.proofs.ReadBack.{read_text}
use Rattle.sentry_json.proofs.WordsAndTexts.{written}
use Rattle.sentry_tables.specs.Lawful.{is_ascii}
use Rattle.sentry_tables.proofs.Sound.{ascii_text}
use Rattle.sentry_framing.specs.HeaderView.{short_header}
use Rattle.sentry_framing.specs.ItemHeader.{read_header, header_of}
use Rattle.sentry_framing.specs.ItemWords.{item_words, kind_word}
use Rattle.sentry_framing.specs.declared.kind.ItemKind.{ItemKind}
use Rattle.sentry_framing.specs.declared.kind.ItemKind.TheVariants as kind

-- ---- a type alone

abbrev typed : ItemKind → Data
typed k = object (member (codes "type") (string (kind_word k)) no_members)

abbrev typed_text : ItemKind → List ℕ
typed_text k = codes "{\"type\":\"" ++ (kind_word k ++ 34 ∷ 125 ∷ [])

typed_ascii : (k : ItemKind) → is_ascii (typed_text k) ≡ true
typed_ascii kind.Event = refl
typed_ascii _ = refl

typed_is : (k : ItemKind) → compact_text (typed k) ≡ typed_text k
unfolding escape_byte
typed_is kind.Event = refl
typed_is _ = refl

typed_read : (k : ItemKind) → header_of item_words (typed k) ≡ Some (short_header k None)
unfolding header_of
typed_read kind.Event = refl
typed_read _ = refl

-- ---- a type and a length

abbrev sized : ItemKind → ℕ → Data
sized k n = object (member (codes "type") (string (kind_word k)) (member (codes "length") (number (unsigned n)) no_members))

-- as it is read
abbrev ordered : ItemKind → ℕ → Data
ordered k n = object (member (codes "length") (number (unsigned n)) (member (codes "type") (string (kind_word k)) no_members))

abbrev front : ItemKind → List ℕ
front k = codes "{\"type\":\"" ++ (kind_word k ++ codes "\",\"length\":")

front_ascii : (k : ItemKind) → is_ascii (front k) ≡ true
front_ascii kind.Event = refl
front_ascii _ = refl

sized_is : (k : ItemKind) (n : ℕ) → compact_text (sized k n) ≡ front k ++ (decimal n ++ 125 ∷ [])
unfolding escape_byte
sized_is kind.Event n = refl
sized_is _ n = refl

sized_read : (k : ItemKind) (n : ℕ) → header_of item_words (ordered k n) ≡ Some (short_header k (Some n))
unfolding header_of
sized_read kind.Event n = refl
sized_read _ n = refl

-- ---- both are read

typed_line : (k : ItemKind) → read_header item_words (compact_text (typed k)) ≡ Some (short_header k None)
unfolding read_header
typed_line k =
    let utf8 = subst IsUtf8 (sym (typed_is k)) (ascii_text (typed_text k) (typed_ascii k)) in
    let tree = tree_of_from (compact_text (typed k)) (typed k) utf8 (read_text (typed k) (typed k) (tt, tt) (omega arith) refl) refl in
    ap (λ o. option_and_then (header_of item_words) o) tree ∙ typed_read k

sized_line : (k : ItemKind) (n : ℕ) → n < 2 ^ 64 → read_header item_words (compact_text (sized k n)) ≡ Some (short_header k (Some n))
unfolding read_header
sized_line k n fits =
    let tail = IsUtf8-append (decimal n) (125 ∷ []) (IsUtf8-from_ascii (decimal n) (IsAscii-decimal n fits)) (ascii_text (125 ∷ []) refl) in
    let utf8 = subst IsUtf8 (sym (sized_is k n)) (IsUtf8-append (front k) (decimal n ++ 125 ∷ []) (ascii_text (front k) (front_ascii k)) tail) in
    let meant : of_json (outline (sized k n)) ≡ Some (ordered k n) = rw (number_of-decimal n fits) refl in
    let tree = tree_of_from (compact_text (sized k n)) (ordered k n) utf8 (read_text (sized k n) (ordered k n) (tt, (IsNumber-decimal n fits, tt)) (omega arith) meant) refl in
    ap (λ o. option_and_then (header_of item_words) o) tree ∙ sized_read k n

-- ---- as they stand at the front of a body

abbrev IsShort : List ℕ → List ℕ → ItemKind → Option ℕ → Type 0
IsShort body after k length = (header : List ℕ) × (body ≡ header ++ after) × IsBalanced header × (read_header item_words header ≡ Some (short_header k length))

typed_front : (k : ItemKind) (s : List ℕ) → codes "{\"type\":\"" ++ (kind_word k ++ 34 ∷ 125 ∷ s) ≡ typed_text k ++ s
typed_front kind.Event s = refl
typed_front _ s = refl

pub typed_header : (k : ItemKind) (body word rest after : List ℕ) → body ≡ codes "{\"type\":\"" ++ word → word ≡ kind_word k ++ 34 ∷ rest → rest ≡ 125 ∷ after → IsShort body after k None
typed_header k body word rest after opens named closes =
    let parts = opens ∙ ap (λ s. codes "{\"type\":\"" ++ s) (named ∙ ap (λ s. kind_word k ++ 34 ∷ s) closes) ∙ typed_front k after ∙ ap (λ s. s ++ after) (sym (typed_is k)) in
    (compact_text (typed k), parts, compact_object (member (codes "type") (string (kind_word k)) no_members), typed_line k)

sized_front : (k : ItemKind) (s : List ℕ) → codes "{\"type\":\"" ++ (kind_word k ++ 34 ∷ (codes ",\"length\":" ++ s)) ≡ front k ++ s
sized_front kind.Event s = refl
sized_front _ s = refl

digits_written : (digits : List ℕ) (n len : ℕ) → AreInteger digits n len → digits ≡ decimal n ++ drop len digits
digits_written digits n len h = sym (take-append-drop len digits) ∙ ap (λ s. s ++ drop len digits) (written digits n len h)

pub sized_header : (k : ItemKind) (body word rest digits after : List ℕ) (n len : ℕ) → body ≡ codes "{\"type\":\"" ++ word → word ≡ kind_word k ++ 34 ∷ rest → rest ≡ codes ",\"length\":" ++ digits → AreInteger digits n len → drop len digits ≡ 125 ∷ after → IsShort body after k (Some n)
sized_header k body word rest digits after n len opens named length integer closes =
    let last = digits_written digits n len integer ∙ ap (λ s. decimal n ++ s) closes in
    let text = opens ∙ ap (λ s. codes "{\"type\":\"" ++ s) (named ∙ ap (λ s. kind_word k ++ 34 ∷ s) (length ∙ ap (λ s. codes ",\"length\":" ++ s) last)) ∙ sized_front k (decimal n ++ 125 ∷ after) in
    let grouped = ap (λ s. front k ++ s) (sym (append_assoc (decimal n) (125 ∷ []) after)) ∙ sym (append_assoc (front k) (decimal n ++ 125 ∷ []) after) in
    let parts = text ∙ grouped ∙ ap (λ s. s ++ after) (sym (sized_is k n)) in
    (compact_text (sized k n), parts, compact_object (member (codes "type") (string (kind_word k)) (member (codes "length") (number (unsigned n)) no_members)), sized_line k n integer.first.fits)
