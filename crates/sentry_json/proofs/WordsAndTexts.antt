-- How scalars are spelled.
use Rattle.std.proofs.Common.{◌≡◌, ℕ, zero, suc, ℤ, pos, negsuc, neg_ℤ, ◌^◌, ◌<◌, ◌≤◌, Bool, true, false, cond, List, [], ◌∷◌, ◌++◌, length, get_or, take, Some, option_map, decimal, refl, sym, ap, ap₂, subst, ◌∙◌, arith}
use Rattle.std.proofs.lemmas.Fmt.{decimal-digits_value}
use Rattle.std.proofs.lemmas.Str.Parse.{numerals_by_value, tells_digits}
use Rattle.std.proofs.lemmas.List.{length-take-le, get_or-take}
use Rattle.sentry_json.specs.Digits.{AreInteger}
use Rattle.json.specs.Token as json_token
use Rattle.json.specs.Json as json
use Rattle.json.specs.Lex.{token, lex, in_word, between, string_token}
use Rattle.json.specs.Word.{ends_word, word}
use Rattle.json.proofs.Printed.Numbers.{lex-number, in_word-ended}
use Rattle.json.proofs.Printed.Decimals.{IsNumber-decimal, IsNumber-signed_decimal}
use Rattle.serde_json.specs.Data.{Data, number, float, string}
use Rattle.serde_json.proofs.Numbers.{number_of-decimal, number_of-negative}
use Rattle.serde_json.specs.Read.{number_of}
use Rattle.sentry_json.specs.declared.tape.float.Float.{Float}
use Rattle.json.specs.Print.{IsNumber}
use Rattle.sentry_json.specs.declared.tape.token.Token.{Token}
use Rattle.sentry_json.specs.declared.tape.token.Token.TheVariants as variants
use Rattle.sentry_json.specs.Spelled.{Spells, SpellsString, SpellsTree, BeginsString, IsQuoted}
use Rattle.sentry_json.specs.Tokens.{IsTaken, width, text_of, value_of, value_at}

-- ---- integers

-- digits stand as the number is written
pub written : (text : List ℕ) (n len : ℕ) → AreInteger text n len → take len text ≡ decimal n
written text n len h =
    let ds = take len text in
    let size : length ds ≡ len = length-take-le len text h.first.within in
    let first : get_or ds 0 0 ≡ get_or text 0 0 = get_or-take len text 0 0 h.some in
    let one : get_or ds 0 0 ≡ 48 → length ds ≡ 1 = λ e. size ∙ h.lead (sym first ∙ e) in
    sym (ap decimal h.first.value ∙ decimal-digits_value (numerals_by_value _ tells_digits) ds h.first.digits (omega (arith, size, h.some)) one (subst (λ m. m < 2 ^ 64) h.first.value h.first.fits))

-- with a minus
minus_spelled : (n : ℕ) (whole rest : List ℕ) (z : ℤ) → whole ≡ 45 ∷ (decimal n ++ rest) → 0 < n → n ≤ 2 ^ 63 → z ≡ neg_ℤ (pos n) → Spells false whole rest (variants.Negative z) [] 0
unfolding value_at
minus_spelled zero whole rest z is some low same = absurd (omega arith)
minus_spelled (suc k) whole rest z is some low same =
    record {
      json = json.number (45 ∷ decimal (suc k));
      lexed = λ ended. ap (lex between) is ∙ lex-number (45 ∷ decimal (suc k)) rest (IsNumber-signed_decimal (negsuc k) (omega arith)) ended;
      meant = ap (option_map number) (number_of-negative k (omega arith)) ∙ ap (λ y. Some (value_of (variants.Negative y) [])) (sym same);
      closed = refl;
      shallow = omega arith;
      taken = (tt, tt);
    }

-- the digits that the code counts
module _ (text rest : List ℕ) (n len : ℕ) (parts : text ≡ take len text ++ rest) (h : AreInteger text n len) where
  by_decimal : text ≡ decimal n ++ rest
  by_decimal = parts ∙ ap (λ ds. ds ++ rest) (written text n len h)

  pub whole_spelled : Spells false text rest (variants.Whole n) [] 0
  unfolding value_at
  whole_spelled =
      record {
        json = json.number (decimal n);
        lexed = λ ended. ap (lex between) by_decimal ∙ lex-number (decimal n) rest (IsNumber-decimal n h.first.fits) ended;
        meant = ap (option_map number) (number_of-decimal n h.first.fits);
        closed = refl;
        shallow = omega arith;
        taken = (tt, tt);
      }

  pub negative_spelled : (whole : List ℕ) (z : ℤ) → whole ≡ 45 ∷ text → 0 < n → n ≤ 2 ^ 63 → z ≡ neg_ℤ (pos n) → Spells false whole rest (variants.Negative z) [] 0
  negative_spelled whole z front some low same = minus_spelled n whole rest z (front ∙ ap (λ s. 45 ∷ s) by_decimal) some low same

-- ---- floats

pub float_spelled : (text front rest : List ℕ) (f : Float) → text ≡ front ++ rest → IsNumber front → number_of front ≡ Some (float f.value) → Spells true text rest (variants.Float f) [] 0
unfolding value_at
float_spelled text front rest f parts is read =
    record {
      json = json.number front;
      lexed = λ ended. ap (lex between) parts ∙ lex-number front rest is ended;
      meant = ap (option_map number) read;
      closed = refl;
      shallow = omega arith;
      taken = (refl, tt);
    }

-- ---- strings

-- a token that has a text is the string of it
text_value : (t : Token) (s : List ℕ) → text_of t ≡ Some s → (Some (string s) ≡ Some (value_of t [])) × (width t ≡ 0)
unfolding value_at
text_value variants.Null s e = absurd (cc)
text_value (variants.Bool b) s e = absurd (cc)
text_value (variants.Whole n) s e = absurd (cc)
text_value (variants.Negative z) s e = absurd (cc)
text_value (variants.Float f) s e = absurd (cc)
text_value (variants.Text x) s e = (ap (option_map string) (sym e), refl)
text_value (variants.Array n) s e = absurd (cc)
text_value (variants.Object n) s e = absurd (cc)

-- it is no number
pub text_taken : (fl : Bool) (t : Token) (s : List ℕ) → text_of t ≡ Some s → IsTaken fl t
text_taken fl variants.Null s e = tt
text_taken fl (variants.Bool b) s e = tt
text_taken fl (variants.Whole n) s e = tt
text_taken fl (variants.Negative z) s e = tt
text_taken fl (variants.Float f) s e = absurd (cc)
text_taken fl (variants.Text x) s e = tt
text_taken fl (variants.Array n) s e = tt
text_taken fl (variants.Object n) s e = tt

pub string_begins : (text inside rest s : List ℕ) → text ≡ 34 ∷ inside → IsQuoted inside s rest → BeginsString text rest s
unfolding lex
string_begins text inside rest s is quoted = ap (lex between) is ∙ ap₂ (λ o l. token (string_token o) ∷ l) quoted.read quoted.lexed

pub string_spelled : (text inside rest s : List ℕ) (t : Token) → text ≡ 34 ∷ inside → text_of t ≡ Some s → IsQuoted inside s rest → SpellsString text rest t
string_spelled text inside rest s t is named quoted = record { name = s; named = named; lexed = string_begins text inside rest s is quoted }

pub text_spelled : {fl : Bool} (text rest : List ℕ) (t : Token) (most : ℕ) → SpellsString text rest t → Spells fl text rest t [] most
text_spelled {fl} text rest t most s =
    let same = text_value t s.name s.named in
    record { json = json.string s.name; lexed = λ ended. s.lexed; meant = same.0; closed = same.1; shallow = omega arith; taken = (text_taken fl t s.name s.named, tt) }

-- a token that a string has, wherever it lies
abbrev pub text_token : List ℕ → Token
text_token s = variants.Text (record { ref_ptr = (0, 0); now = s })

pub begun_spelled : (text rest s : List ℕ) → BeginsString text rest s → SpellsString text rest (text_token s)
begun_spelled text rest s begins = record { name = s; named = refl; lexed = begins }

pub string_tree : (text inside rest s : List ℕ) (d : Data) (most : ℕ) → text ≡ 34 ∷ inside → IsQuoted inside s rest → d ≡ string s → SpellsTree text rest d most
unfolding value_at
string_tree text inside rest s d most is quoted same = (text_token s, [], text_spelled text rest (text_token s) most (string_spelled text inside rest s (text_token s) is refl quoted), sym same)

-- ---- words

-- a literal is read where a word ends behind it
word_ended : (t : json_token.Token) (rest : List ℕ) → ends_word rest ≡ true → token (cond (ends_word rest) t json_token.bad) ∷ lex in_word rest ≡ token t ∷ lex between rest
word_ended t rest ended = ap₂ (λ b l. token (cond b t json_token.bad) ∷ l) ended (in_word-ended rest ended)

pub null_spelled : (text rest : List ℕ) → text ≡ 110 ∷ 117 ∷ 108 ∷ 108 ∷ rest → Spells false text rest variants.Null [] 0
unfolding lex word value_at
null_spelled text rest is = record { json = json.null; lexed = λ ended. ap (lex between) is ∙ word_ended json_token.null rest ended; meant = refl; closed = refl; shallow = omega arith; taken = (tt, tt) }

pub true_spelled : (text rest : List ℕ) → text ≡ 116 ∷ 114 ∷ 117 ∷ 101 ∷ rest → Spells false text rest (variants.Bool true) [] 0
unfolding lex word value_at
true_spelled text rest is = record { json = json.boolean true; lexed = λ ended. ap (lex between) is ∙ word_ended (json_token.boolean true) rest ended; meant = refl; closed = refl; shallow = omega arith; taken = (tt, tt) }

pub false_spelled : (text rest : List ℕ) → text ≡ 102 ∷ 97 ∷ 108 ∷ 115 ∷ 101 ∷ rest → Spells false text rest (variants.Bool false) [] 0
unfolding lex word value_at
false_spelled text rest is = record { json = json.boolean false; lexed = λ ended. ap (lex between) is ∙ word_ended (json_token.boolean false) rest ended; meant = refl; closed = refl; shallow = omega arith; taken = (tt, tt) }
