-- What holds of each piece of a compact text, and of two texts in a row, holds of the whole.
use Rattle.std.proofs.Common.{ℕ, ◌<◌, ◌≤◌, pos, negsuc, List, [], ◌∷◌, ◌++◌, Bool, true, false, arith, IsUtf8}
use Rattle.std.proofs.lemmas.Fmt.{IsAscii-decimal, IsAscii-signed}
use Rattle.std.proofs.lemmas.Str.{IsUtf8-append, IsUtf8-nil, IsUtf8-from_ascii}
use Rattle.json.specs.Token.{Token}
use Rattle.json.specs.Print.{quoted, token_text}
use Rattle.json.proofs.Printed.Utf8.{IsUtf8-quoted}
use Rattle.serde_json.specs.Data.{Num, unsigned, negative, float, Data, null, boolean, number, string, array, object, Items, no_items, item, Members, no_members, member}
use Rattle.serde_json.specs.Written.{compact_text, items_text, members_text, comma_if, number_text}
use Rattle.sentry_json.specs.Sound.{IsWholeNumber, IsSound, AreSound, MembersAreSound}
use Rattle.sentry_json.proofs.Pieces.{compact_clean}
use Rattle.sentry_json.proofs.Strings.{one_ascii}

-- what the pieces need
pub record OfPieces (P : List ℕ → Type 0) : Type 0 where
  pub append : (xs ys : List ℕ) → P xs → P ys → P (xs ++ ys)
  pub nothing : P []
  pub mark : (x : ℕ) → 44 ≤ x → x < 128 → P (x ∷ [])
  pub text : (s : List ℕ) → IsUtf8 s → P (quoted s)
  pub whole : (n : Num) → IsWholeNumber n → P (number_text n)

module _ (P : List ℕ → Type 0) (o : OfPieces P) where
  then_mark : (x : ℕ) → 44 ≤ x → x < 128 → (xs : List ℕ) → P xs → P (x ∷ xs)
  then_mark x low high xs h = o.append (x ∷ []) xs (o.mark x low high) h

  comma : (b : Bool) → P (comma_if b)
  comma true = o.mark 44 (omega arith) (omega arith)
  comma false = o.nothing

  word : (b : Bool) → P (token_text (Token.boolean b))
  word true = then_mark 116 (omega arith) (omega arith) _ (then_mark 114 (omega arith) (omega arith) _ (then_mark 117 (omega arith) (omega arith) _ (o.mark 101 (omega arith) (omega arith))))
  word false = then_mark 102 (omega arith) (omega arith) _ (then_mark 97 (omega arith) (omega arith) _ (then_mark 108 (omega arith) (omega arith) _ (then_mark 115 (omega arith) (omega arith) _ (o.mark 101 (omega arith) (omega arith)))))

  mutual
    pub of_compact_text : (d : Data) → IsSound d → P (compact_text d)
    of_compact_text null h = then_mark 110 (omega arith) (omega arith) _ (then_mark 117 (omega arith) (omega arith) _ (then_mark 108 (omega arith) (omega arith) _ (o.mark 108 (omega arith) (omega arith))))
    of_compact_text (boolean b) h = word b
    of_compact_text (number n) h = o.whole n h
    of_compact_text (string s) h = o.text s h
    of_compact_text (array ds) h = then_mark 91 (omega arith) (omega arith) _ (of_items_text false ds h)
    of_compact_text (object ms) h = then_mark 123 (omega arith) (omega arith) _ (of_members_text false ms h.1)

    of_items_text : (later : Bool) (ds : Items) → AreSound ds → P (items_text later ds)
    of_items_text later no_items h = o.mark 93 (omega arith) (omega arith)
    of_items_text later (item d ds) h = o.append (comma_if later) _ (comma later) (o.append (compact_text d) _ (of_compact_text d h.0) (of_items_text true ds h.1))

    of_members_text : (later : Bool) (ms : Members) → MembersAreSound ms → P (members_text later ms)
    of_members_text later no_members h = o.mark 125 (omega arith) (omega arith)
    of_members_text later (member k d ms) h =
        o.append (comma_if later) _ (comma later) (o.append (quoted k) _ (o.text k h.0) (then_mark 58 (omega arith) (omega arith) _ (o.append (compact_text d) _ (of_compact_text d h.1) (of_members_text true ms h.2))))

-- ---- UTF-8

number_is_text : (n : Num) → IsWholeNumber n → IsUtf8 (number_text n)
number_is_text (unsigned n) h = IsUtf8-from_ascii _ (IsAscii-decimal n h)
number_is_text (negative (pos n)) h = absurd h
number_is_text (negative (negsuc n)) h = IsUtf8-from_ascii _ (IsAscii-signed (negsuc n) (omega arith))
number_is_text (float x) h = absurd h

pub IsUtf8-compact_text : (d : Data) → IsSound d → IsUtf8 (compact_text d)
IsUtf8-compact_text = of_compact_text IsUtf8 (record { append = IsUtf8-append; nothing = IsUtf8-nil; mark = λ x low high. one_ascii x high; text = IsUtf8-quoted; whole = number_is_text })

pub ruleset one_line = (IsUtf8-compact_text, compact_clean)
