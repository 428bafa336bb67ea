-- Headers of strings and whole numbers, read member by member.
use Rattle.std.proofs.Common.{true, false, ◌≡◌, ◌^◌, ◌<◌, ◌≤◌, ℕ, suc, List, [], ◌∷◌, ◌++◌, Option, None, Some, option_map, option_and_then, refl, sym, ap, ◌∙◌, append_assoc, arith, subst, drop, take-append-drop}
use Rattle.std.specs.Prelude.{codes, if◌then◌else◌, ⊤}
use Rattle.std.specs.Str.{IsAscii, bytes_eq}
use Rattle.std.proofs.lemmas.List.{append_cancel_right}
use Rattle.std.proofs.lemmas.Fmt.{IsAscii-decimal}
use Rattle.std.proofs.lemmas.Slice.Eq.{bytes_eq-Decides}
use Rattle.std.proofs.lemmas.Str.{IsAscii-append, IsUtf8-from_ascii}
use Rattle.std.proofs.lemmas.Str.Ascii.{IsAscii-cons, IsAscii-nil, IsAscii-push}
use Rattle.json.specs.Print.{escape, quoted}
use Rattle.json.specs.Tree.{MembersHaveNumbers, members_depth}
use Rattle.json.proofs.Printed.Decimals.{IsNumber-decimal}
use Rattle.serde_json.specs.Data.{Data, Members, no_members, member, object, string, number, unsigned, put}
use Rattle.serde_json.specs.Find.{as_str, get_member}
use Rattle.serde_json.specs.Read.{of_members, read as read_json}
use Rattle.serde_json.specs.Written.{compact_text, members_outline, members_text}
use Rattle.serde_json.proofs.Numbers.{number_of-decimal}
use Rattle.sentry_json.specs.Balanced.{IsBalanced}
use Rattle.sentry_json.specs.Digits.{AreInteger}
use Rattle.sentry_json.specs.PlainTexts.{is_plain_text}
use Rattle.sentry_json.proofs.AtKeys.{found_one}
use Rattle.sentry_json.proofs.Pieces.{compact_object}
use Rattle.sentry_json.proofs.PlainTexts.{plain_text}
use Rattle.sentry_json.proofs.ReadBack.{read_text}
use Rattle.sentry_json.proofs.WordsAndTexts.{written}
use Rattle.sentry_framing.specs.ItemHeader.{optional, whole_number}
use Rattle.sentry_forward.specs.AnyHeader.{any_header, typed_of}
use Rattle.sentry_forward.specs.FlatMembers.{AddsMember, BeginsScalar, HaveFields, IsScalar}
use Rattle.sentry_forward.proofs.Headers.{json_found}
use Rattle.sentry_forward.proofs.Readings.{typed}

-- ---- scalars

pub string_stands : (bytes inside run stop rest : List ℕ) → bytes ≡ 34 ∷ inside → inside ≡ run ++ stop → stop ≡ 34 ∷ rest → is_plain_text run ≡ true → bytes ≡ quoted run ++ rest
string_stands bytes inside run stop rest opens parts closes plain =
    opens ∙ ap (λ x. 34 ∷ x) (parts ∙ ap (λ x. run ++ x) closes ∙ ap (λ e. e ++ 34 ∷ rest) (sym (plain_text run plain)) ∙ sym (append_assoc (escape run) (34 ∷ []) rest))

quoted_ascii : (run : List ℕ) → is_plain_text run ≡ true → IsAscii run → IsAscii (quoted run)
quoted_ascii run plain ascii =
    IsAscii-cons 34 (escape run ++ 34 ∷ []) (omega arith) (IsAscii-push (escape run) 34 (subst IsAscii (sym (plain_text run plain)) ascii) (omega arith))

string_scalar : (run : List ℕ) → is_plain_text run ≡ true → IsAscii run → IsScalar (string run)
string_scalar run plain ascii = record { numbers = tt; shallow = refl; read = refl; ascii = quoted_ascii run plain ascii }

pub string_begins : (bytes run rest : List ℕ) → bytes ≡ quoted run ++ rest → is_plain_text run ≡ true → IsAscii run → BeginsScalar bytes rest
string_begins bytes run rest is plain ascii = record { value = string run; scalar = string_scalar run plain ascii; text = is }

number_scalar : (n : ℕ) → n < 2 ^ 64 → IsScalar (number (unsigned n))
number_scalar n fits = record { numbers = IsNumber-decimal n fits; shallow = refl; read = ap (option_map number) (number_of-decimal n fits); ascii = IsAscii-decimal n fits }

number_stands : (bytes rest : List ℕ) (n len : ℕ) → AreInteger bytes n len → rest ≡ drop len bytes → bytes ≡ compact_text (number (unsigned n)) ++ rest
number_stands bytes rest n len h is =
    sym (take-append-drop len bytes) ∙ ap (λ s. s ++ drop len bytes) (written bytes n len h) ∙ ap (λ s. compact_text (number (unsigned n)) ++ s) (sym is)

pub number_begins : (bytes rest : List ℕ) (n len : ℕ) → AreInteger bytes n len → rest ≡ drop len bytes → BeginsScalar bytes rest
number_begins bytes rest n len h is = record { value = number (unsigned n); scalar = number_scalar n h.first.fits; text = number_stands bytes rest n len h is }

-- ---- one member

key_is : (key word : List ℕ) → bytes_eq key word ≡ true → key ≡ word
key_is key word h = (bytes_eq-Decides key word).0 h

module _ (bytes key behind value : List ℕ) (named : bytes ≡ quoted key ++ behind) (colon : behind ≡ 58 ∷ value) (plain : is_plain_text key ≡ true) (ascii : IsAscii key) where
  stands_at : (name : List ℕ) → key ≡ name → (d : Data) (rest : List ℕ) → value ≡ compact_text d ++ rest → bytes ≡ quoted name ++ 58 ∷ (compact_text d ++ rest)
  stands_at name is d rest stands = named ∙ ap (λ x. quoted key ++ x) (colon ∙ ap (λ x. 58 ∷ x) stands) ∙ ap (λ k. quoted k ++ 58 ∷ (compact_text d ++ rest)) is

  key_ascii : (name : List ℕ) → key ≡ name → IsAscii (quoted name)
  key_ascii name is = subst (λ k. IsAscii (quoted k)) is (quoted_ascii key plain ascii)

  pub adds_type : (word rest : List ℕ) (old : Option (List ℕ)) (stated : Option ℕ) → bytes_eq key (codes "type") ≡ true → value ≡ quoted word ++ rest → is_plain_text word ≡ true → IsAscii word
      → AddsMember bytes rest old (Some word) stated stated
  adds_type word rest old stated same is word_plain word_ascii =
      let type_key : key ≡ codes "type" = key_is key (codes "type") same in
      record {
        key = codes "type";
        value = string word;
        scalar = string_scalar word word_plain word_ascii;
        ascii = key_ascii (codes "type") type_key;
        text = stands_at (codes "type") type_key (string word) rest is;
        fields = λ ms have. record {
          type_is = found_one (codes "type") (codes "type") (string word) ms;
          length_is = found_one (codes "length") (codes "type") (string word) ms ∙ have.length_is;
        };
      }

  pub adds_length : (rest : List ℕ) (n len : ℕ) (word : Option (List ℕ)) (old : Option ℕ) → bytes_eq key (codes "length") ≡ true → AreInteger value n len → rest ≡ drop len value
      → AddsMember bytes rest word word old (Some n)
  adds_length rest n len word old same h is =
      let length_key : key ≡ codes "length" = key_is key (codes "length") same in
      record {
        key = codes "length";
        value = number (unsigned n);
        scalar = number_scalar n h.first.fits;
        ascii = key_ascii (codes "length") length_key;
        text = stands_at (codes "length") length_key (number (unsigned n)) rest (number_stands value rest n len h is);
        fields = λ ms have. record {
          type_is = found_one (codes "type") (codes "length") (number (unsigned n)) ms ∙ have.type_is;
          length_is = found_one (codes "length") (codes "length") (number (unsigned n)) ms;
        };
      }

  pub adds_other : (rest : List ℕ) (word : Option (List ℕ)) (stated : Option ℕ) → bytes_eq key (codes "type") ≡ false → bytes_eq key (codes "length") ≡ false → BeginsScalar value rest
      → AddsMember bytes rest word word stated stated
  adds_other rest word stated no_type no_length h = record {
    key = key;
    value = h.value;
    scalar = h.scalar;
    ascii = quoted_ascii key plain ascii;
    text = stands_at key refl h.value rest h.text;
    fields = λ ms have. record {
      type_is = found_one (codes "type") key h.value ms ∙ ap (λ b. if b then Some h.value else get_member (codes "type") ms) no_type ∙ have.type_is;
      length_is = found_one (codes "length") key h.value ms ∙ ap (λ b. if b then Some h.value else get_member (codes "length") ms) no_length ∙ have.length_is;
    };
  }

-- ---- what was read of a header

abbrev AreScalars : Members → Type 0
AreScalars no_members = ⊤
AreScalars (member k d ms) = IsScalar d × AreScalars ms

-- The object that these bytes are, whose members after those before it are put behind `found`.
abbrev IsWhole : List ℕ → List ℕ → Members → Members → Type 0
IsWhole body after ms found = (all : Members) × (body ≡ compact_text (object all) ++ after) × AreScalars all × (of_members (members_outline all) no_members ≡ of_members (members_outline ms) found)

-- Members with this type and this length were read. Whatever members follow, all make one object.
pub record ReadSoFar (body left : List ℕ) (found : Members) (word : Option (List ℕ)) (stated : Option ℕ) : Type 0 where
  pub fields : HaveFields found word stated
  pub seen : List ℕ
  pub parts : body ≡ seen ++ left
  pub ascii : IsAscii seen
  pub goes_on : (k : List ℕ) (d : Data) (ms : Members) (after : List ℕ) → left ≡ quoted k ++ 58 ∷ (compact_text d ++ (members_text true ms ++ after)) → IsScalar d → AreScalars ms
      → IsWhole body after ms (put k d found)

abbrev pub Read : List ℕ → List ℕ → Option (List ℕ) → Option ℕ → Type 0
Read body left word stated = (found : Members) × ReadSoFar body left found word stated

-- a member, and others
with_member : (key : List ℕ) (d : Data) (ms : Members) (after : List ℕ) → quoted key ++ 58 ∷ (compact_text d ++ (members_text true ms ++ after)) ≡ (quoted key ++ 58 ∷ (compact_text d ++ members_text true ms)) ++ after
with_member key d ms after =
    ap (λ x. quoted key ++ 58 ∷ x) (sym (append_assoc (compact_text d) (members_text true ms) after)) ∙ sym (append_assoc (quoted key) (58 ∷ (compact_text d ++ members_text true ms)) after)

puts_read : (k : List ℕ) (d : Data) (ms found : Members) → IsScalar d → of_members (members_outline (member k d ms)) found ≡ of_members (members_outline ms) (put k d found)
puts_read k d ms found scalar = ap (option_and_then (λ e. of_members (members_outline ms) (put k e found))) scalar.read

pub begun : (body inside : List ℕ) → body ≡ 123 ∷ inside → Read body inside None None
begun body inside opens = (
  no_members,
  record {
    fields = record { type_is = refl; length_is = refl };
    seen = 123 ∷ [];
    parts = opens;
    ascii = IsAscii-cons 123 [] (omega arith) IsAscii-nil;
    goes_on = λ k d ms after follows scalar scalars. (member k d ms, opens ∙ ap (λ x. 123 ∷ x) (follows ∙ with_member k d ms after), (scalar, scalars), puts_read k d ms no_members scalar);
  },
)

module _ (body left rest : List ℕ) (old word : Option (List ℕ)) (before stated : Option ℕ) (read : Read body left old before) (adds : AddsMember left rest old word before stated) where
  abbrev piece : List ℕ
  piece = quoted adds.key ++ 58 ∷ compact_text adds.value

  piece_ascii : IsAscii piece
  piece_ascii = IsAscii-append (quoted adds.key) (58 ∷ compact_text adds.value) adds.ascii (IsAscii-cons 58 (compact_text adds.value) (omega arith) adds.scalar.ascii)

  -- what is left stands behind the member and one more byte
  seen_more : (last : ℕ) (after : List ℕ) → rest ≡ last ∷ after → body ≡ (read.1.seen ++ (piece ++ last ∷ [])) ++ after
  seen_more last after is =
      let tail : compact_text adds.value ++ rest ≡ (compact_text adds.value ++ last ∷ []) ++ after =
      ap (λ x. compact_text adds.value ++ x) is ∙ sym (append_assoc (compact_text adds.value) (last ∷ []) after) in
      let own : left ≡ (piece ++ last ∷ []) ++ after =
      adds.text ∙ ap (λ x. quoted adds.key ++ 58 ∷ x) tail ∙ sym (append_assoc (quoted adds.key) (58 ∷ (compact_text adds.value ++ last ∷ [])) after)
      ∙ ap (λ x. x ++ after) (sym (append_assoc (quoted adds.key) (58 ∷ compact_text adds.value) (last ∷ []))) in
      read.1.parts ∙ ap (λ x. read.1.seen ++ x) own ∙ sym (append_assoc read.1.seen (piece ++ last ∷ []) after)

  seen_ascii : (last : ℕ) → last < 128 → IsAscii (read.1.seen ++ (piece ++ last ∷ []))
  seen_ascii last low = IsAscii-append read.1.seen (piece ++ last ∷ []) read.1.ascii (IsAscii-push piece last piece_ascii low)

  abbrev found : Members
  found = put adds.key adds.value read.0

  -- a comma follows, and more members
  pub next : (more : List ℕ) → rest ≡ 44 ∷ more → Read body more word stated
  next more comma = (
    found,
    record {
      fields = adds.fields read.0 read.1.fields;
      seen = read.1.seen ++ (piece ++ 44 ∷ []);
      parts = seen_more 44 more comma;
      ascii = seen_ascii 44 (omega arith);
      goes_on = λ k d ms after follows scalar scalars.
          let (all, parts, both, are) =
          read.1.goes_on adds.key adds.value (member k d ms) after
          (adds.text ∙ ap (λ x. quoted adds.key ++ 58 ∷ (compact_text adds.value ++ x)) (comma ∙ ap (λ x. 44 ∷ x) (follows ∙ with_member k d ms after))) adds.scalar (scalar, scalars) in
          (all, parts, both, are ∙ puts_read k d ms found scalar);
    },
  )

  -- ---- the whole header

  all_numbers : (ms : Members) → AreScalars ms → MembersHaveNumbers (members_outline ms)
  all_numbers no_members h = tt
  all_numbers (member k d ms) (scalar, others) = (scalar.numbers, all_numbers ms others)

  all_shallow : (ms : Members) → AreScalars ms → members_depth (members_outline ms) ≡ 0
  all_shallow no_members h = refl
  all_shallow (member k d ms) (scalar, others) = rw (scalar.shallow, all_shallow ms others) refl

  stated_is : (n : Option ℕ) → optional whole_number (option_map (λ n. number (unsigned n)) n) ≡ Some n
  stated_is None = refl
  stated_is (Some n) = refl

  abbrev IsFlat : List ℕ → List ℕ → Type 0
  IsFlat after name = (header : List ℕ) × (body ≡ header ++ after) × IsBalanced header × (any_header header ≡ Some (record { word = name; length = stated }))

  -- the object ends behind the member
  pub flat_header : (after name : List ℕ) → rest ≡ 125 ∷ after → word ≡ Some name → IsFlat after name
  unfolding any_header
  flat_header after name closes is =
      let (all, parts, scalars, are) =
      read.1.goes_on adds.key adds.value no_members after (adds.text ∙ ap (λ x. quoted adds.key ++ 58 ∷ (compact_text adds.value ++ x)) closes) adds.scalar tt in
      let header : List ℕ = compact_text (object all) in
      let same : read.1.seen ++ (piece ++ 125 ∷ []) ≡ header =
      append_cancel_right (read.1.seen ++ (piece ++ 125 ∷ [])) header after (sym (seen_more 125 after closes) ∙ parts) in
      let utf8 = IsUtf8-from_ascii header (subst IsAscii same (seen_ascii 125 (omega arith))) in
      let shallow : suc (members_depth (members_outline all)) ≤ 127 = rw (all_shallow all scalars) (omega arith) in
      let reads : read_json header ≡ Some (object found) = read_text (object all) (object found) (all_numbers all scalars) shallow (ap (option_map object) are) in
      let have = adds.fields read.0 read.1.fields in
      let said = typed (object found) name stated (ap (option_and_then as_str) (have.type_is ∙ ap (option_map string) is)) (ap (optional whole_number) have.length_is ∙ stated_is stated) in
      (header, parts, compact_object all, ap (option_and_then typed_of) (json_found header (object found) utf8 reads) ∙ said)
