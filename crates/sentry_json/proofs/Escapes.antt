-- Strings with escapes: what stands in the text, and how it is read and lexed.
use Rattle.std.proofs.Common.{◌≡◌, ℕ, ◌+◌, ◌*◌, ◌<◌, ◌≤◌, Bool, true, false, cond, if◌then◌else◌, ◌&&◌, nat_lt, List, [], ◌∷◌, ◌++◌, length, get_or, Option, Some, None, refl, sym, ap, ◌∙◌, arith, append_assoc, append-nil, true≢false}
use Rattle.std.proofs.lemmas.Bool.{and_parts, ne_eqb, le-ltb, lt-ltb}
use Rattle.std.proofs.lemmas.Bool.Decides.{nat_tests}
use Rattle.std.specs.Char.{InScalarRange, digit_value, is_digit, encode_utf8}
use Rattle.json.specs.Word.{is_operator, is_space}
use Rattle.json.specs.Lex.{Lexeme, Mode, lex, lex_byte, in_string, in_escape, operator, space, other}
use Rattle.json.specs.Text.{Within, content, plain, after_backslash, after_u, prepend, code_unit, short_escape, is_high_surrogate, is_low_surrogate, surrogate_pair}
use Rattle.sentry_json.specs.Escaped.{IsUnit, StandsFor}
use Rattle.sentry_json.specs.PlainTexts.{is_plain_text}
use Rattle.sentry_json.proofs.PlainTexts.{no_stop}
use Rattle.sentry_json.specs.Spelled.{IsQuoted}

-- ---- bytes that stand for themselves

stays_inside : (o s : Bool) (x : ℕ) (r : List ℕ) (k : Mode → List Lexeme) → lex_byte in_string (cond o operator (cond s space other)) x r k ≡ k in_string
stays_inside true s x r k = refl
stays_inside false true x r k = refl
stays_inside false false x r k = refl

lex-byte : (x : ℕ) (r : List ℕ) → (x ≡ 34 → ⊥) → (x ≡ 92 → ⊥) → lex in_string (x ∷ r) ≡ lex in_string r
unfolding lex
lex-byte x r q b = rw (ne_eqb x 34 q, ne_eqb x 92 b) (stays_inside (is_operator x) (is_space x) x r (λ m. lex m r))

content-byte : (x : ℕ) (r : List ℕ) → (x ≡ 34 → ⊥) → (x ≡ 92 → ⊥) → 32 ≤ x → content plain (x ∷ r) ≡ prepend (x ∷ []) (content plain r)
unfolding content
content-byte x r q b l = rw (ne_eqb x 34 q, ne_eqb x 92 b, le-ltb x 32 l)

prepend-nil : (r : Option (List ℕ)) → prepend [] r ≡ r
prepend-nil None = refl
prepend-nil (Some s) = refl

prepend-prepend : (a b : List ℕ) (r : Option (List ℕ)) → prepend a (prepend b r) ≡ prepend (a ++ b) r
prepend-prepend a b None = refl
prepend-prepend a b (Some s) = ap Some (sym (append_assoc a b s))

pub none_before : (text : List ℕ) → StandsFor plain in_string text [] text
none_before text = record { read = sym (prepend-nil _); lexed = refl }

pub and_then : (w : Within) (m : Mode) (text s mid t rest : List ℕ) → StandsFor w m text s mid → StandsFor plain in_string mid t rest → StandsFor w m text (s ++ t) rest
and_then w m text s mid t rest h k = record {
  read = h.read ∙ ap (prepend s) k.read ∙ prepend-prepend s t _;
  lexed = h.lexed ∙ k.lexed;
}

plain_byte : (x : ℕ) (r : List ℕ) → (x ≡ 34 → ⊥) → (x ≡ 92 → ⊥) → 32 ≤ x → StandsFor plain in_string (x ∷ r) (x ∷ []) r
plain_byte x r q b l = record { read = content-byte x r q b l; lexed = lex-byte x r q b }

-- a run of bytes, up to a quote, a backslash or a control byte
pub run_passes : (run stop : List ℕ) → is_plain_text run ≡ true → StandsFor plain in_string (run ++ stop) run stop
run_passes [] stop h = none_before stop
run_passes (x ∷ run) stop h =
    let both = and_parts _ _ h in
    let first = no_stop x both.0 in
    and_then plain in_string (x ∷ run ++ stop) (x ∷ []) (run ++ stop) run stop (plain_byte x (run ++ stop) first.0 first.1 first.2) (run_passes run stop both.1)

-- what was read, and then such a run
pub run_read : (inside s rest run stop : List ℕ) → StandsFor plain in_string inside s rest → rest ≡ run ++ stop → is_plain_text run ≡ true → StandsFor plain in_string inside (s ++ run) stop
run_read inside s rest run stop h parts clean = and_then plain in_string inside s (run ++ stop) run stop (rw parts at h) (run_passes run stop clean)

-- ---- the ends of a run

pub closed : (text s stop rest : List ℕ) → stop ≡ 34 ∷ rest → StandsFor plain in_string text s stop → IsQuoted text s rest
unfolding content lex
closed text s stop rest e h = record {
  read = h.read ∙ ap (λ t. prepend s (content plain t)) e ∙ ap Some (append-nil s);
  lexed = h.lexed ∙ ap (lex in_string) e;
}

pub escaped : (stop more s rest : List ℕ) → stop ≡ 92 ∷ more → StandsFor after_backslash in_escape more s rest → StandsFor plain in_string stop s rest
unfolding content lex
escaped stop more s rest e h = record {
  read = ap (content plain) e ∙ h.read;
  lexed = ap (lex in_string) e ∙ h.lexed;
}

-- ---- escapes

not_u : (x c : ℕ) → short_escape x ≡ Some c → x ≡ 117 → ⊥
unfolding short_escape
not_u x c h e = let none : None ≡ Some c = sym (ap short_escape e) ∙ h in cc

ascii : (c : ℕ) → c < 128 → encode_utf8 c ≡ c ∷ []
unfolding encode_utf8
ascii c lt = rw (lt-ltb c 128 lt)

pub short_passes : (x c : ℕ) (text rest : List ℕ) → text ≡ x ∷ rest → short_escape x ≡ Some c → c < 128 → StandsFor after_backslash in_escape text (encode_utf8 c) rest
unfolding content lex
short_passes x c text rest e h lt = record {
  read = rw (e, ne_eqb x 117 (not_u x c h), h, ascii c lt);
  lexed = ap (lex in_escape) e;
}

pub unicode_passes : (x : ℕ) (text more s rest : List ℕ) → text ≡ x ∷ more → x ≡ 117 → StandsFor after_u in_string more s rest → StandsFor after_backslash in_escape text s rest
unfolding content lex
unicode_passes x text more s rest e u h = record {
  read = ap (content after_backslash) (e ∙ ap (λ y. y ∷ more) u) ∙ h.read;
  lexed = ap (lex in_escape) e ∙ h.lexed;
}

digit_passes : (x : ℕ) (r : List ℕ) → is_digit x 16 ≡ true → lex in_string (x ∷ r) ≡ lex in_string r
digit_passes x r h = lex-byte x r (λ e. true≢false (sym h ∙ ap (λ y. is_digit y 16) e)) (λ e. true≢false (sym h ∙ ap (λ y. is_digit y 16) e))

-- the four digits, of what is spelled
four_digits : (p q r s : Bool) (n u : ℕ) → cond (p && q && r && s) (Some n) None ≡ Some u → (p ≡ true) × (q ≡ true) × (r ≡ true) × (s ≡ true)
four_digits true true true true n u h = (refl, refl, refl, refl)
four_digits p q r s n u h = (cc)

unit_lexed : (text rest : List ℕ) (u : ℕ) → IsUnit text u rest → lex in_string text ≡ lex in_string rest
unfolding code_unit
unit_lexed text rest u h =
    let are = four_digits (is_digit h.a 16) (is_digit h.b 16) (is_digit h.c 16) (is_digit h.d 16) _ u h.spelled in
    ap (lex in_string) h.digits ∙ digit_passes h.a _ are.0 ∙ digit_passes h.b _ are.1 ∙ digit_passes h.c _ are.2 ∙ digit_passes h.d _ are.3

no_surrogate : (u : ℕ) → InScalarRange u → (is_high_surrogate u ≡ false) × (is_low_surrogate u ≡ false)
no_surrogate u h = (grind (arith, nat_tests), grind (arith, nat_tests))

pub unit_passes : (text rest : List ℕ) (u c : ℕ) → IsUnit text u rest → InScalarRange u → c ≡ u → StandsFor after_u in_string text (encode_utf8 c) rest
unfolding content
unit_passes text rest u c h scalar is = record {
  read = rw (h.digits, h.spelled, (no_surrogate u scalar).0, (no_surrogate u scalar).1, is);
  lexed = unit_lexed text rest u h;
}

is_high : (u : ℕ) → 0xd800 ≤ u → u < 0xdc00 → is_high_surrogate u ≡ true
is_high u l h = grind (arith, nat_tests)

is_low : (u : ℕ) → 0xdc00 ≤ u → u < 0xe000 → is_low_surrogate u ≡ true
is_low u l h = grind (arith, nat_tests)

module _ (text mid next more rest : List ℕ) (high low c : ℕ) where
  pub pair_passes : IsUnit text high mid → mid ≡ 92 ∷ next → next ≡ 117 ∷ more → IsUnit more low rest → 0xd800 ≤ high → high < 0xdc00 → 0xdc00 ≤ low → low < 0xe000
      → c ≡ surrogate_pair high low → StandsFor after_u in_string text (encode_utf8 c) rest
  unfolding content lex
  pair_passes h slash u k high_from high_to low_from low_to is = record {
    read = rw (h.digits, h.spelled, is_high high high_from high_to, slash, u, k.digits, k.spelled, is_low low low_from low_to, is);
    lexed = unit_lexed text mid high h ∙ ap (lex in_string) slash ∙ ap (lex in_escape) u ∙ unit_lexed more rest low k;
  }

-- four bytes, split off
four : (front rest : List ℕ) → length front ≡ 4 → front ++ rest ≡ get_or front 0 0 ∷ get_or front 1 0 ∷ get_or front 2 0 ∷ get_or front 3 0 ∷ rest
four [] rest h = absurd (omega arith)
four (a ∷ []) rest h = absurd (omega arith)
four (a ∷ b ∷ []) rest h = absurd (omega arith)
four (a ∷ b ∷ c ∷ []) rest h = absurd (omega arith)
four (a ∷ b ∷ c ∷ d ∷ []) rest h = refl
four (a ∷ b ∷ c ∷ d ∷ e ∷ more) rest h = absurd (omega arith)

-- n is the value of the hex digit x
abbrev pub IsDigit : ℕ → ℕ → Type 0
IsDigit x n = (n ≡ digit_value x) × (n < 16)

is_hex : (x n : ℕ) → IsDigit x n → is_digit x 16 ≡ true
is_hex x n h = ap (λ v. nat_lt v 16) (sym h.0) ∙ lt-ltb n 16 h.1

pub unit_of : (text front rest : List ℕ) (a b c d : ℕ) → text ≡ front ++ rest → length front ≡ 4
    → IsDigit (get_or front 0 0) a → IsDigit (get_or front 1 0) b → IsDigit (get_or front 2 0) c → IsDigit (get_or front 3 0) d → IsUnit text (a * 4096 + b * 256 + c * 16 + d) rest
unfolding code_unit
unit_of text front rest a b c d e len ha hb hc hd =
    let x = get_or front in record {
      a = x 0 0;
      b = x 1 0;
      c = x 2 0;
      d = x 3 0;
      digits = e ∙ four front rest len;
      spelled = rw (is_hex (x 0 0) a ha, is_hex (x 1 0) b hb, is_hex (x 2 0) c hc, is_hex (x 3 0) d hd, ha.0, hb.0, hc.0, hd.0);
    }

-- the bytes of a string after a push that didn't fail
pub pushed : (ok : Bool) (old more new : List ℕ) → new ≡ (if ok then old ++ more else old) → true ≡ ok → new ≡ old ++ more
pushed true old more new e is = e
pushed false old more new e is = absurd (true≢false is)
