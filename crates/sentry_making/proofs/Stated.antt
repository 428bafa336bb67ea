-- What a header says that is made to state the length.
use Rattle.std.proofs.Common.{◌≡◌, ◌≢◌, ◌^◌, ◌<◌, ◌/◌, ◌%◌, ◌+◌, ◌==◌, ℕ, zero, suc, Bool, true, false, not, List, [], ◌∷◌, ◌++◌, length, drop, Option, Some, None, option_map, option_and_then, is_some, append-nil, length-append, IsTrue, if◌then◌else◌, refl, sym, ap, ◌∙◌, subst, arith, rules, append_assoc, decimal, inl, inr, nat_lt, lt-ltb}
use Rattle.std.specs.Prelude.{codes, IsUtf8}
use Rattle.std.specs.Fmt.{digits, digits_onto}
use Rattle.std.specs.Str.{IsAscii, is_utf8}
use Rattle.std.proofs.lemmas.Bool.{cases_Bool}
use Rattle.std.proofs.lemmas.Option.{same_Some}
use Rattle.std.proofs.lemmas.Fmt.{IsAscii-decimal}
use Rattle.std.proofs.lemmas.Str.{IsAscii-append, IsUtf8-append, IsUtf8-from_ascii, IsUtf8-from_is_utf8}
use Rattle.std.proofs.lemmas.Str.Ascii.{IsAscii-push}
use Rattle.json.specs.Print.{escape_byte}
use Rattle.serde_json.specs.Data.{Data, object}
use Rattle.serde_json.specs.Find.{as_str, get}
use Rattle.serde_json.specs.Read.{read}
use Rattle.sentry_json.specs.Balanced.{IsBalanced, braces, IsInside, IsStringEnd, plain, string, closed, byte}
use Rattle.sentry_json.proofs.Strings.{beside_ascii}
use Rattle.sentry_framing.specs.Framing.{Frame, GoesOn, IsFault, Opens, Reading, is_space}
use Rattle.sentry_framing.specs.declared.error.EnvelopeError.{EnvelopeError}
use Rattle.sentry_framing.specs.declared.error.EnvelopeError.TheVariants.{UnexpectedEof, MissingHeader, MissingItemHeader, MissingNewline, InvalidHeader, InvalidItemHeader, InvalidItemPayload, OutOfMemory}
use Rattle.sentry_framing.proofs.Opening.{not_blank, same_opening}
use Rattle.std.proofs.lemmas.List.Elements.{All-nil}
use Rattle.sentry_framing.specs.ItemHeader.{◌>>=◌, optional, whole_number}
use Rattle.sentry_forward.specs.AnyHeader.{Typed, any_header, json_of, typed_of}
use Rattle.sentry_forward.proofs.Headers.{json_found}
use Rattle.sentry_forward.proofs.Readings.{typed}
use Rattle.sentry_making.specs.Making.{IsItem, lacks_length, made_header, with_length}
use Rattle.sentry_making.proofs.Inserted.{IsRead, length_key, read_with_length, type_key, with_stated}

split : {A B : Type 0} (o : Option A) (f : A → Option B) (y : B) → option_and_then f o ≡ Some y → (x : A) × (o ≡ Some x) × (f x ≡ Some y)
split None f y e = cc
split (Some x) f y e = (x, refl, e)

-- ---- what a header says

pub json_parts : (bytes : List ℕ) (d : Data) → json_of bytes ≡ Some d → IsUtf8 bytes × (read bytes ≡ Some d)
unfolding json_of
json_parts bytes d e = elim (cases_Bool (is_utf8 bytes)) [
  | inl holds ↦ (IsUtf8-from_is_utf8 bytes holds, rw holds at e)
  | inr fails ↦ let f = rw fails at e in absurd (cc)
]

-- the tree of a header has what the header says
pub record HasTree (header : List ℕ) (t : Typed) : Type 0 where
  pub tree : Data
  pub json_is : json_of header ≡ Some tree
  pub word_is : option_and_then as_str (get type_key tree) ≡ Some t.word
  pub length_is : optional whole_number (get length_key tree) ≡ Some t.length

pub tree_of : (header : List ℕ) (t : Typed) → any_header header ≡ Some t → HasTree header t
unfolding any_header typed_of
tree_of header t e =
    let (d, json, of) = split (json_of header) typed_of t e in
    let (word, w, e1) = split (get (codes "type") d >>= as_str) _ t of in
    let (n, l, e2) = split (optional whole_number (get (codes "length") d)) _ t e1 in
    let all : record { word = word; length = n } ≡ t = same_Some _ t e2 in
    record { tree = d; json_is = json; word_is = w ∙ ap (λ (x : Typed). Some x.word) all; length_is = l ∙ ap (λ (x : Typed). Some x.length) all }

absent : (o : Option Data) → not (is_some o) ≡ true → o ≡ None
absent None h = refl
absent (Some d) h = cc

pub lacking : (header : List ℕ) (d : Data) → json_of header ≡ Some d → lacks_length header ≡ true → get length_key d ≡ None
unfolding lacks_length
lacking header d json lacks = absent (get length_key d) (ap (λ o. not (is_some (option_and_then (get length_key) o))) (sym json) ∙ lacks)

-- a header that states a length doesn't lack it
pub stating : (header : List ℕ) (t : Typed) (n : ℕ) → any_header header ≡ Some t → t.length ≡ Some n → lacks_length header ≡ false
stating header t n e is = elim (cases_Bool (lacks_length header)) [
  | inr fails ↦ fails
  | inl holds ↦
      let h = tree_of header t e in
      let none = lacking header h.tree h.json_is holds in
      let both : Some None ≡ Some (Some n) = sym (ap (optional whole_number) none) ∙ h.length_is ∙ ap Some is in
      cc
]

-- ---- digits inside braces

plain_byte : (b : ℕ) (s : List ℕ) → b ≢ 34 → b ≢ 123 → b ≢ 125 → IsInside s → IsInside (b ∷ s)
plain_byte b s q o c h = plain q o c h

digits_inside : (k n : ℕ) (acc s : List ℕ) → IsInside (acc ++ s) → IsInside (digits_onto k 10 false n acc ++ s)
digits_inside zero n acc s h = h
digits_inside (suc k) n acc s h =
    let glyph : (m : ℕ) → m < 10 → IsInside (((if nat_lt m 10 then 48 + m else (87 + m)) ∷ acc) ++ s) =
    λ m less. let low : nat_lt m 10 ≡ true = lt-ltb m 10 less in rw low (plain_byte (48 + m) (acc ++ s) (λ e. omega arith) (λ e. omega arith) (λ e. omega arith) h) in
    let small : n % 10 < 10 = omega arith in
    elim (cases_Bool (n / 10 == 0)) [
      | inl e ↦ rw e (glyph (n % 10) small)
      | inr e ↦ rw e (digits_inside k (n / 10) _ s (glyph (n % 10) small))
    ]

decimal_inside : (n : ℕ) (s : List ℕ) → IsInside s → IsInside (decimal n ++ s)
unfolding digits
decimal_inside n s h = digits_inside 64 n [] s h

key_end : IsStringEnd (codes "length\"")
key_end =
    byte (λ e. omega arith) (λ e. omega arith) (byte (λ e. omega arith) (λ e. omega arith) (byte (λ e. omega arith) (λ e. omega arith) (byte (λ e. omega arith) (λ e. omega arith)
    (byte (λ e. omega arith) (λ e. omega arith) (byte (λ e. omega arith) (λ e. omega arith) closed)))))

stated_inside : (n : ℕ) (s : List ℕ) → IsInside s → IsInside (codes "\"length\":" ++ (decimal n ++ 44 ∷ s))
stated_inside n s h =
    string key_end (plain (λ e. omega arith) (λ e. omega arith) (λ e. omega arith) (decimal_inside n (44 ∷ s) (plain (λ e. omega arith) (λ e. omega arith) (λ e. omega arith) h)))

pub balanced_with : (n : ℕ) (header : List ℕ) → IsBalanced header → IsBalanced (with_length n header)
balanced_with n _ (braces {s} inside) =
    let same : codes "{\"length\":" ++ (decimal n ++ 44 ∷ (s ++ 125 ∷ [])) ≡ 123 ∷ ((codes "\"length\":" ++ (decimal n ++ 44 ∷ s)) ++ 125 ∷ []) =
    ap (λ x. codes "{\"length\":" ++ x) (sym (append_assoc (decimal n) (44 ∷ s) (125 ∷ []))) in
    subst IsBalanced (sym same) (braces (stated_inside n s inside))

-- ---- the header with a length in front

begins : (header : List ℕ) → IsBalanced header → header ≡ 123 ∷ drop 1 header
begins _ (braces {s} inside) = refl

stated_is : (n : ℕ) (header : List ℕ) → with_length n header ≡ with_stated n (drop 1 header)
unfolding escape_byte
stated_is n header = refl

pub says_length : (n : ℕ) (header : List ℕ) (t : Typed) → n < 2 ^ 64 → IsBalanced header → any_header header ≡ Some t → lacks_length header ≡ true → any_header (with_length n header) ≡ Some (record { word = t.word; length = Some n })
unfolding any_header
says_length n header t fits balanced e lacks =
    let h = tree_of header t e in
    let (utf8, reads) = json_parts header h.tree h.json_is in
    let inside = drop 1 header in
    let opens = begins header balanced in
    let some : get type_key h.tree ≢ None = λ none. let both : None ≡ Some t.word = sym (ap (option_and_then as_str) none) ∙ h.word_is in cc in
    let found : IsRead n fits inside h.tree = read_with_length n fits inside h.tree some (ap read (sym opens) ∙ reads) in
    let ascii : IsAscii (codes "{\"length\":" ++ decimal n) = IsAscii-append (codes "{\"length\":") (decimal n) (search rules) (IsAscii-decimal n fits) in
    let front : IsAscii ((codes "{\"length\":" ++ decimal n) ++ 44 ∷ []) = IsAscii-push (codes "{\"length\":" ++ decimal n) 44 ascii (omega arith) in
    let rest : IsUtf8 inside = (beside_ascii [] inside 123 (omega arith) (subst IsUtf8 opens utf8)).1 in
    let parts : ((codes "{\"length\":" ++ decimal n) ++ 44 ∷ []) ++ inside ≡ with_length n header =
    append_assoc (codes "{\"length\":" ++ decimal n) (44 ∷ []) inside ∙ append_assoc (codes "{\"length\":") (decimal n) (44 ∷ inside) in
    let text : IsUtf8 (with_length n header) = subst IsUtf8 parts (IsUtf8-append ((codes "{\"length\":" ++ decimal n) ++ 44 ∷ []) inside (IsUtf8-from_ascii _ front) rest) in
    let json = json_found (with_length n header) (object found.found) text (ap read (stated_is n header) ∙ found.read_is) in
    let none = lacking header h.tree h.json_is lacks in
    let word = ap (option_and_then as_str) found.type_is ∙ h.word_is in
    let size : optional whole_number (get length_key (object found.found)) ≡ Some (Some n) = ap (optional whole_number) (found.length_is none) in
    ap (option_and_then typed_of) json ∙ typed (object found.found) t.word (Some n) word size

-- ---- the header of an item

pub header_says : (item : Frame) (t : Typed) → IsItem item → any_header item.header ≡ Some t → any_header (made_header item) ≡ Some (record { word = t.word; length = Some (length item.payload) })
header_says item t h e = elim (cases_Bool (lacks_length item.header)) [
  | inl holds ↦ rw holds (says_length (length item.payload) item.header t h.sized h.balanced e holds)
  | inr fails ↦
      let same : h.typed ≡ t = same_Some h.typed t (sym h.says ∙ e) in
      elim h.right [
        | inl lacks ↦ let never : true ≡ false = sym lacks ∙ fails in cc
        | inr states ↦ rw fails (e ∙ ap (λ n. Some (record { word = t.word; length = n })) (ap (λ (u : Typed). u.length) (sym same) ∙ states))
      ]
]

pub header_balanced : (item : Frame) → IsItem item → IsBalanced (made_header item)
header_balanced item h = elim (cases_Bool (lacks_length item.header)) [
  | inl holds ↦ rw holds (balanced_with (length item.payload) item.header h.balanced)
  | inr fails ↦ rw fails h.balanced
]

-- ---- headers that are refused

pub lacks_is : {A : Type 0} (header : List ℕ) (d : Data) (found : Option A) (data_of : A → Data) (none : Bool) → is_some found ≡ not none → IsUtf8 header → read header ≡ Some d → option_map data_of found ≡ get length_key d → none ≡ lacks_length header
unfolding lacks_length
lacks_is {A} header d found data_of none told utf8 reads is =
    twice none ∙ ap not (sym told) ∙ none_as found ∙ ap (λ o. not (is_some o)) is ∙ ap (λ o. not (is_some (option_and_then (get length_key) o))) (sym (json_found header d utf8 reads))
  where
    twice : (b : Bool) → b ≡ not (not b)
    twice true = refl
    twice false = refl

    none_as : (o : Option A) → not (is_some o) ≡ not (is_some (option_map data_of o))
    none_as None = refl
    none_as (Some x) = refl

opens_whole : (header : List ℕ) → IsBalanced header → Opens header header []
opens_whole header balanced = record { space = []; blank = All-nil (λ b. IsTrue (is_space b)); balanced = balanced; parts = sym (append-nil header) }

-- one that no balanced piece begins
pub no_item : (item : Frame) (e : EnvelopeError) → ((reads : Reading) → IsFault reads item.header e) → IsItem item → ⊥
no_item item e fault h = at e (fault (λ header. Some None))
  where
    o : Opens item.header item.header []
    o = opens_whole item.header h.balanced

    goes_on : (after : List ℕ) → after ≡ [] → GoesOn after → ⊥
    goes_on after nil (b, more, is, ne) = let f : [] ≡ b ∷ more = sym nil ∙ is in cc

    at : (x : EnvelopeError) → IsFault (λ header. Some None) item.header x → ⊥
    at UnexpectedEof (inl blank) = not_blank item.header item.header [] o blank
    at UnexpectedEof (inr short) = let f : Some None ≡ Some (Some short.stated) = short.header.accepted in cc
    at InvalidItemHeader none = let f : Some None ≡ None = none.refused item.header [] o in cc
    at MissingNewline (inl unended) = let both = same_opening item.header item.header unended.header.header [] unended.after o unended.header.opens in goes_on unended.after (sym both.1) unended.goes_on
    at MissingNewline (inr unended) = let f : Some None ≡ Some (Some (length unended.payload)) = unended.header.accepted in cc
    at MissingHeader f = f
    at MissingItemHeader f = f
    at InvalidHeader f = f
    at InvalidItemPayload f = f
    at OutOfMemory f = f

-- one that is more than a balanced piece
pub longer_than : (item : Frame) (piece after : List ℕ) → Opens item.header piece after → length piece ≢ length item.header → IsItem item → ⊥
longer_than item piece after o other h = other (ap length (same_opening item.header piece item.header after [] o (opens_whole item.header h.balanced)).0)

-- one that is a balanced piece
pub whole_piece : (header piece after : List ℕ) → Opens header piece after → length piece ≡ length header → IsBalanced header
whole_piece header piece after o same = at o.space after (o.parts)
  where
    at : (space rest : List ℕ) → header ≡ space ++ (piece ++ rest) → IsBalanced header
    at [] [] e = subst IsBalanced (sym (e ∙ append-nil piece)) o.balanced
    at [] (b ∷ rest) e = absurd (omega (arith, same, ap length e, length-append piece (b ∷ rest)))
    at (b ∷ space) rest e = absurd (omega (arith, same, ap length e, length-append space (piece ++ rest), length-append piece rest))

-- one that states another length
pub other_length : (item : Frame) (t : Typed) (n : ℕ) → any_header item.header ≡ Some t → t.length ≡ Some n → n ≢ length item.payload → IsItem item → ⊥
other_length item t n says is other h = elim h.right [
  | inl lacks ↦ let f : true ≡ false = sym lacks ∙ stating item.header t n says is in cc
  | inr states ↦
      let same : h.typed ≡ t = same_Some h.typed t (sym h.says ∙ says) in
      other (same_Some n (length item.payload) (sym is ∙ ap (λ (u : Typed). u.length) (sym same) ∙ states))
]

-- one whose length is null
pub null_length : (item : Frame) (t : Typed) → any_header item.header ≡ Some t → t.length ≡ None → false ≡ lacks_length item.header → IsItem item → ⊥
null_length item t says is there h = elim h.right [
  | inl lacks ↦ let f : true ≡ false = sym lacks ∙ sym there in cc
  | inr states ↦
      let same : h.typed ≡ t = same_Some h.typed t (sym h.says ∙ says) in
      let f : None ≡ Some (length item.payload) = sym is ∙ ap (λ (u : Typed). u.length) (sym same) ∙ states in
      cc
]
