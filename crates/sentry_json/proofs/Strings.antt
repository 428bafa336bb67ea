-- In a text that is UTF-8, what a string stands for is UTF-8: its plain bytes stand between ASCII
-- bytes, and each escape stands for a character.
use Rattle.std.proofs.Common.{◌≡◌, ℕ, ◌+◌, ◌*◌, ◌<◌, ◌≤◌, true, false, cond, ◌&&◌, ◌||◌, ◌==◌, nat_lt, List, [], ◌∷◌, ◌++◌, length, get_or, Option, Some, None, IfSome, IsUtf8, sym, subst, append_assoc, append-nil, arith, ltb-true, eqb-true, length-append}
use Rattle.std.proofs.Math.Seq.{get_or-append_seam, take-append_seam, drop-append-add}
use Rattle.std.proofs.lemmas.Bool.{and_parts, leb-true}
use Rattle.std.proofs.lemmas.Str.{encode_ascii, IsUtf8-append, IsUtf8-encode, IsUtf8-take, IsUtf8-drop, IsCharBoundary-before_ascii, IsCharBoundary-after_ascii}
use Rattle.std.proofs.lemmas.Bool.Decides.{nat_tests}
use lib.Utf8.{low_scalar}
use Rattle.std.specs.Char.{digit_value, is_digit, encode_utf8, IsScalar}
use Rattle.json.specs.Text.{code_unit, short_escape, is_high_surrogate, is_low_surrogate, surrogate_pair, Within, plain, after_backslash, after_u, after_high, prepend, content}
use Rattle.sentry_json.proofs.Options.{IfSome_map, IfSome_and_then, IfSome_cond}

-- ---- about an ASCII byte

-- both sides of an ASCII byte are UTF-8
pub beside_ascii : (xs ys : List ℕ) (x : ℕ) → x < 128 → IsUtf8 (xs ++ x ∷ ys) → IsUtf8 xs × IsUtf8 ys
beside_ascii xs ys x small u =
    let bytes = xs ++ x ∷ ys in
    let n = length xs in
    let long : length bytes ≡ n + length (x ∷ ys) = length-append xs (x ∷ ys) in
    let here : get_or bytes n 0 ≡ x = get_or-append_seam xs x ys 0 in
    let within : n < length bytes = omega (arith, long) in
    let low : get_or bytes n 0 < 128 = rw here small in
    let left = IsUtf8-take bytes n u (IsCharBoundary-before_ascii bytes n within low) in
    let right = IsUtf8-drop bytes (n + 1) u (IsCharBoundary-after_ascii bytes n u within low) in
    (subst IsUtf8 (take-append_seam xs (x ∷ ys)) left, subst IsUtf8 (drop-append-add xs (x ∷ ys) 1) right)

pub one_ascii : (x : ℕ) → x < 128 → IsUtf8 (x ∷ [])
one_ascii x small = subst IsUtf8 (encode_ascii x small) (IsUtf8-encode x (low_scalar x (omega arith)))

-- ---- escapes

pub digit_is_ascii : (x : ℕ) → digit_value x < 16 → x < 128
digit_is_ascii x h = grind (arith, nat_tests)

below_2_16 : (a b c d : ℕ) → a < 16 → b < 16 → c < 16 → d < 16 → a * 4096 + b * 256 + c * 16 + d < 65536
below_2_16 a b c d ha hb hc hd = omega arith

unit_bounds : (a b c d : ℕ) → IfSome (code_unit a b c d) (λ u. (u < 65536) × (d < 128))
unfolding code_unit
unit_bounds a b c d = IfSome_cond (λ u. (u < 65536) × (d < 128)) (is_digit a 16 && is_digit b 16 && is_digit c 16 && is_digit d 16) _ None (λ e.
    let p = and_parts _ _ e in
    let q = and_parts _ _ p.0 in
    let r = and_parts _ _ q.0 in
    let small = ltb-true _ _ p.1 in
    (below_2_16 _ _ _ _ (ltb-true _ _ r.0) (ltb-true _ _ r.1) (ltb-true _ _ q.1) small, digit_is_ascii d small)) (λ _. tt)

short_is_ascii : (x : ℕ) → IfSome (short_escape x) (λ c. (c < 128) × (x < 128))
unfolding short_escape
short_is_ascii x =
    let one : (b : ℕ) (c : ℕ) (o : Option ℕ) → b < 128 → c < 128 → IfSome o (λ c. (c < 128) × (x < 128)) → IfSome (cond (x == b) (Some c) o) (λ c. (c < 128) × (x < 128)) =
    λ b c o small low more. IfSome_cond _ (x == b) (Some c) o (λ e. (low, omega (arith, eqb-true x b e))) (λ _. more) in
    IfSome_cond (λ c. (c < 128) × (x < 128)) ((x == 34) || (x == 92) || (x == 47)) (Some x) _ (λ e. let small : x < 128 = grind (arith, nat_tests) in (small, small))
    (λ _. one 98 8 _ (omega arith) (omega arith) (one 102 12 _ (omega arith) (omega arith) (one 110 10 _ (omega arith) (omega arith) (one 114 13 _ (omega arith) (omega arith) (one 116 9 None (omega arith) (omega arith) tt)))))

unit_is_scalar : (u : ℕ) → u < 65536 → is_high_surrogate u ≡ false → is_low_surrogate u ≡ false → IsScalar u
unit_is_scalar u small high low = grind (arith, nat_tests)

pair_is_scalar : (h l : ℕ) → 0xd800 ≤ h → h < 0xdc00 → is_low_surrogate l ≡ true → IsScalar (surrogate_pair h l)
pair_is_scalar h l from below low = grind (arith, nat_tests)

-- ---- what a string stands for

-- the bytes before, as they were unescaped, go on with what stands next
abbrev GoesOn : Within → List ℕ → List ℕ → Type 0
GoesOn plain before rest = IsUtf8 (before ++ rest)
GoesOn after_backslash before rest = IsUtf8 before × IsUtf8 rest
GoesOn after_u before rest = IsUtf8 before × IsUtf8 rest
GoesOn (after_high h) before rest = IsUtf8 before × IsUtf8 rest × (0xd800 ≤ h) × (h < 0xdc00)

abbrev IsTextAfter : List ℕ → List ℕ → Type 0
IsTextAfter before s = IsUtf8 (before ++ s)

prepended : (before bytes : List ℕ) (o : Option (List ℕ)) → IfSome o (IsTextAfter (before ++ bytes)) → IfSome (prepend bytes o) (IsTextAfter before)
prepended before bytes = IfSome_map _ _ (λ s. bytes ++ s) (λ s h. subst IsUtf8 (append_assoc before bytes s) h)

joined : (before bytes rest : List ℕ) → IsUtf8 before → IsUtf8 bytes → IsUtf8 rest → IsUtf8 ((before ++ bytes) ++ rest)
joined before bytes rest a b c = IsUtf8-append (before ++ bytes) rest (IsUtf8-append before bytes a b) c

content_goes_on : (w : Within) (rest before : List ℕ) → GoesOn w before rest → IfSome (content w rest) (IsTextAfter before)
unfolding content
content_goes_on plain [] before h = tt
content_goes_on plain (x ∷ xs) before h =
    IfSome_cond _ (x == 34) _ _ (λ e. let q = beside_ascii before xs x (omega (arith, eqb-true x 34 e)) h in subst IsUtf8 (sym (append-nil before)) q.0)
    (λ _. IfSome_cond _ (x == 92) _ _ (λ e. content_goes_on after_backslash xs before (beside_ascii before xs x (omega (arith, eqb-true x 92 e)) h))
    (λ _. IfSome_cond _ (nat_lt x 32) None _ (λ _. tt) (λ _. prepended before (x ∷ []) _ (content_goes_on plain xs (before ++ x ∷ []) (subst IsUtf8 (sym (append_assoc before (x ∷ []) xs)) h)))))
content_goes_on after_backslash [] before h = tt
content_goes_on after_backslash (x ∷ xs) before h =
    IfSome_cond _ (x == 117) _ _ (λ e. content_goes_on after_u xs before (h.0, (beside_ascii [] xs x (omega (arith, eqb-true x 117 e)) h.1).1))
    (λ _. IfSome_and_then _ _ _ (λ c b. prepended before (c ∷ []) _ (content_goes_on plain xs (before ++ c ∷ []) (joined before (c ∷ []) xs h.0 (one_ascii c b.0) (beside_ascii [] xs x b.1 h.1).1))) (short_escape x) (short_is_ascii x))
content_goes_on after_u [] before h = tt
content_goes_on after_u (a ∷ []) before h = tt
content_goes_on after_u (a ∷ b ∷ []) before h = tt
content_goes_on after_u (a ∷ b ∷ c ∷ []) before h = tt
content_goes_on after_u (a ∷ b ∷ c ∷ d ∷ xs) before h =
    IfSome_and_then _ _ _ (λ u e.
    let later = (beside_ascii (a ∷ b ∷ c ∷ []) xs d e.1 h.1).1 in
    IfSome_cond _ (is_high_surrogate u) _ _ (λ high. let r = and_parts _ _ high in content_goes_on (after_high u) xs before (h.0, later, leb-true 0xd800 u r.0, ltb-true u 0xdc00 r.1))
    (λ high. IfSome_cond _ (is_low_surrogate u) None _ (λ _. tt)
    (λ low. prepended before (encode_utf8 u) _ (content_goes_on plain xs (before ++ encode_utf8 u) (joined before (encode_utf8 u) xs h.0 (IsUtf8-encode u (unit_is_scalar u e.0 high low)) later)))))
    (code_unit a b c d) (unit_bounds a b c d)
content_goes_on (after_high k) [] before h = tt
content_goes_on (after_high k) (s ∷ []) before h = tt
content_goes_on (after_high k) (s ∷ u ∷ []) before h = tt
content_goes_on (after_high k) (s ∷ u ∷ a ∷ []) before h = tt
content_goes_on (after_high k) (s ∷ u ∷ a ∷ b ∷ []) before h = tt
content_goes_on (after_high k) (s ∷ u ∷ a ∷ b ∷ c ∷ []) before h = tt
content_goes_on (after_high k) (s ∷ u ∷ a ∷ b ∷ c ∷ d ∷ xs) before h =
    IfSome_cond _ ((s == 92) && (u == 117)) _ None (λ _. IfSome_and_then _ _ _ (λ l e.
    IfSome_cond _ (is_low_surrogate l) _ None
    (λ low. prepended before (encode_utf8 (surrogate_pair k l)) _ (content_goes_on plain xs (before ++ encode_utf8 (surrogate_pair k l)) (joined before (encode_utf8 (surrogate_pair k l)) xs h.0 (IsUtf8-encode _ (pair_is_scalar k l h.2 h.3 low)) (beside_ascii (s ∷ u ∷ a ∷ b ∷ c ∷ []) xs d e.1 h.1).1)))
    (λ _. tt)) (code_unit a b c d) (unit_bounds a b c d)) (λ _. tt)

-- what stands between quotes in a text that is UTF-8 stands for UTF-8
pub content_is_text : (rest : List ℕ) → IsUtf8 rest → IfSome (content plain rest) IsUtf8
content_is_text rest u = content_goes_on plain rest [] u
